-- Text written into a buffer, piece behind piece. Assumes nothing: these are definitions.
use Rattle.std.specs.Prelude.{◌≡◌, List, ◌++◌, ℕ, ◌+◌, ◌≤◌, length, take, drop}
use Rattle.text.specs.declared.Text.{Text}

-- the text w was written into a buffer at a place, and r is the place behind it; all else in the buffer is as before
pub record Appended (before : List ℕ) (at : ℕ) (w after : List ℕ) (r : ℕ) : Type 0 where
  pub ends : r ≡ at + length w
  pub fits : r ≤ length before
  pub stands : after ≡ take at before ++ w ++ drop r before

-- so many bytes more fit the buffer of a text
abbrev pub HasRoom : ℕ → Text → Type 0
HasRoom n t = t.size + n ≤ length t.buffer.now

-- the text w was written behind a text, in the same buffer
pub record Pushed (before : Text) (w : List ℕ) (after : Text) : Type 0 where
  pub same_buffer : after.buffer.ghost_name ≡ before.buffer.ghost_name
  pub same_size : length after.buffer.now ≡ length before.buffer.now
  pub appended : Appended before.buffer.now before.size w after.buffer.now after.size

-- How many bytes a piece has at most: a number of 64 bits 20; the line of a refusal nine more.
abbrev pub number_length : ℕ
number_length = 20

abbrev pub refused_length : ℕ
refused_length = 29
