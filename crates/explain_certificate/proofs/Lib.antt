mod CountedLines
mod Facts
