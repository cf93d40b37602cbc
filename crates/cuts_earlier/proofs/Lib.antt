mod Judgings
