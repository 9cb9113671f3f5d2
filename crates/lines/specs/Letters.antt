-- The letters, as the programs read and print them.
-- Assumes nothing.
use Rattle.std.specs.Prelude.{ℕ}

abbrev pub letter_p : ℕ
letter_p = 80

abbrev pub letter_d : ℕ
letter_d = 68

abbrev pub letter_b : ℕ
letter_b = 66

abbrev pub letter_c : ℕ
letter_c = 67

abbrev pub letter_w : ℕ
letter_w = 87

abbrev pub letter_r : ℕ
letter_r = 82

abbrev pub letter_s : ℕ
letter_s = 83

abbrev pub letter_a : ℕ
letter_a = 65

abbrev pub letter_i : ℕ
letter_i = 73

abbrev pub letter_t : ℕ
letter_t = 84

abbrev pub letter_z : ℕ
letter_z = 90

abbrev pub letter_o : ℕ
letter_o = 79

abbrev pub letter_k : ℕ
letter_k = 75

abbrev pub small_p : ℕ
small_p = 112

abbrev pub small_o : ℕ
small_o = 111
