-- The characters of a line besides its digits and letters.
-- Assumes nothing.
use Rattle.std.specs.Prelude.{ℕ}

abbrev pub newline : ℕ
newline = 10

abbrev pub space : ℕ
space = 32

-- `!`
abbrev pub bang : ℕ
bang = 33

-- `-`
abbrev pub dash : ℕ
dash = 45

-- `?`
abbrev pub question : ℕ
question = 63

-- the digits stand behind 0 in order
abbrev pub zero_digit : ℕ
zero_digit = 48
