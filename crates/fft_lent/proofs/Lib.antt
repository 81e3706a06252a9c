-- The complex product's operands from lent slices and its result into one (InAndOut).
mod InAndOut
