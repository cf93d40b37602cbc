mod WholeFile
