-- Which bytes `hand_on` is given, and in which order. No contract of the standard library says what becomes of bytes that are written to a stream, so
-- this is said of its arguments: `sent` counts the bytes that it was given before. That it gives them to `write_all`, and that nobody else sets the
-- count, is read off the program.
use Rattle.std.specs.Prelude.{◌≡◌, Bool, cond, true, List, ℕ, ◌+◌, length, take, drop, ℤ, pos}

-- POSIX's number of standard output
abbrev pub standard_output : ℤ
standard_output = pos 1

-- `text` is what stands in `listed` right behind its first `sent` bytes
abbrev pub Follows : List ℕ → ℕ → List ℕ → Type 0
Follows listed sent text = take (length text) (drop sent listed) ≡ text

-- the count after a text: its bytes more where the answer is `all`, else as it was
abbrev pub HandedOn : ℕ → List ℕ → Bool → ℕ → Type 0
HandedOn sent text all after = after ≡ cond all (sent + length text) sent

-- where the answer is that all went well, all bytes are counted
abbrev pub HandedAll : List ℕ → Bool → ℕ → Type 0
HandedAll listed all after = all ≡ true → after ≡ length listed
