-- The numbers of a layer on n shares: where one lies, and how many words there are (Lying).
mod Lying
