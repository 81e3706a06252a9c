-- A layer's pairs in turn (InRow).
mod InRow
