-- The letters of the program aircraft, as it reads and prints them.
-- Assumes nothing.
use Rattle.std.specs.Prelude.{ℕ}

abbrev pub letter_q : ℕ
letter_q = 81

abbrev pub letter_y : ℕ
letter_y = 89

abbrev pub letter_p : ℕ
letter_p = 80

abbrev pub letter_n : ℕ
letter_n = 78

abbrev pub letter_r : ℕ
letter_r = 82
