-- What a line behind `Y` asks, by its length.
-- Assumes nothing.
use Prim.Native.Nat.{ℕ, ◌+◌, ◌-◌, ◌≤◌}
use native.Mathlib.Omega.{arith}
use mathlib.Core.Path.{◌≡◌, refl, sym, ap, ◌∙◌}
use mathlib.Core.Bool.{true, false}
use mathlib.Core.List.{List, [], ◌∷◌}
use lib.ListN.{length, take, drop, get_or, length-take, length-drop}
use lib.Seq.{get_or-take, get_or-drop, take_all}
use Rattle.rows.proofs.Bool.{split}
use Rattle.std.specs.Prelude.{Option, Some, None}
use Rattle.items.specs.Text.{ItemsRead, items_read, behind_item, byte_item, bytes_in}
use Rattle.items.proofs.Run.{byte_on, bytes_end}
use Rattle.lines.specs.Asked.{one_byte}
use Rattle.airframe.specs.declared.Form.TheVariants.{Taken, Failed}
use Rattle.aircraft_lines.specs.declared.Line.TheVariants.{Take}
use Rattle.aircraft_lines.specs.Asked.{other, form_asked, wholly, taking_in, say_ask}

-- the part of a text from a place to its end
pub the_rest : (t : List ℕ) (k : ℕ) → take (length t - k) (drop k t) ≡ drop k t
the_rest t k = take_all (length t - k) (drop k t) (omega (arith, length-drop k t))

-- ---- Y

-- the byte at a place of a text
module _ (t : List ℕ) (i : ℕ) (h : i + 3 ≤ length t) where
  item_at : one_byte (take 3 (drop i t)) ≡ byte_item (get_or t i 0) (get_or t (i + 1) 0) (get_or t (i + 2) 0)
  unfolding one_byte
  item_at =
      let e : length (take 3 (drop i t)) ≡ 3 = omega (arith, length-take 3 (drop i t), length-drop i t) in
      let z : i + 0 ≡ i = omega arith in
      rw (e, get_or-take 3 (drop i t) 0 0 (omega arith), get_or-take 3 (drop i t) 1 0 (omega arith), get_or-take 3 (drop i t) 2 0 (omega arith), get_or-drop i t 0 0, get_or-drop i t 1 0, get_or-drop i t 2 0, z)

  byte_here : bytes_in (drop i t) ≡ behind_item (one_byte (take 3 (drop i t))) (bytes_in (drop (i + 3) t))
  byte_here = byte_on t i h ∙ ap (λ (o : Option ℕ). behind_item o (bytes_in (drop (i + 3) t))) (sym item_at)

-- one byte and no more
module _ (t : List ℕ) (h : length t ≡ 4) where
  one_read : bytes_in (drop 1 t) ≡ behind_item (one_byte (take 3 (drop 1 t))) (items_read [] true)
  one_read = byte_here t 1 (omega arith) ∙ ap (behind_item (one_byte (take 3 (drop 1 t)))) (bytes_end t 4 (sym h))

  pub one_none : None ≡ one_byte (take 3 (drop 1 t)) → None ≡ say_ask (taking_in t)
  unfolding taking_in say_ask
  one_none e = rw one_read (rw (← e))

  pub one_form : (n : ℕ) → Some n ≡ one_byte (take 3 (drop 1 t)) → Some (Take n Taken) ≡ say_ask (taking_in t)
  unfolding taking_in say_ask
  one_form n e = rw one_read (rw (← e))

-- two bytes and no more
module _ (t : List ℕ) (h : length t ≡ 7) where
  two_read : bytes_in (drop 1 t) ≡ behind_item (one_byte (take 3 (drop 1 t))) (behind_item (one_byte (take 3 (drop 4 t))) (items_read [] true))
  two_read =
      byte_here t 1 (omega arith)
      ∙ ap (behind_item (one_byte (take 3 (drop 1 t)))) (byte_here t 4 (omega arith) ∙ ap (behind_item (one_byte (take 3 (drop 4 t)))) (bytes_end t 7 (sym h)))

  pub first_none : None ≡ one_byte (take 3 (drop 1 t)) → None ≡ say_ask (taking_in t)
  unfolding taking_in say_ask
  first_none e = rw two_read (rw (← e))

  pub second_none : (n : ℕ) → Some n ≡ one_byte (take 3 (drop 1 t)) → None ≡ one_byte (take 3 (drop 4 t)) → None ≡ say_ask (taking_in t)
  unfolding taking_in say_ask
  second_none n e d = rw two_read (rw (← e, ← d))

  pub two_form : (n m : ℕ) → Some n ≡ one_byte (take 3 (drop 1 t)) → Some m ≡ one_byte (take 3 (drop 4 t)) → Some (Take n (Failed m)) ≡ say_ask (taking_in t)
  unfolding taking_in say_ask
  two_form n m e d = rw two_read (rw (← e, ← d))

-- two bytes and something more
more : (x y : Option ℕ) (a : ℕ) (rest : List ℕ) → wholly (behind_item x (behind_item y (bytes_in (a ∷ rest)))) form_asked ≡ other
unfolding bytes_in
more None y a rest = refl
more (Some x) None a rest = refl
more (Some x) (Some y) a [] = refl
more (Some x) (Some y) a (b ∷ []) = refl
more (Some x) (Some y) a (b ∷ c ∷ rest) = on (byte_item a b c) (bytes_in rest)
  where
    on : (z : Option ℕ) (r : ItemsRead ℕ) → wholly (behind_item (Some x) (behind_item (Some y) (behind_item z r))) form_asked ≡ other
    on None r = refl
    on (Some z) r = split r.whole (λ d. rw d) (λ d. rw d)

short : (x : Option ℕ) → wholly (behind_item x (items_read [] false)) form_asked ≡ other
short None = refl
short (Some n) = refl

-- any text but one of three or six characters
no_form : (u : List ℕ) → (length u ≡ 3 → ⊥) → (length u ≡ 6 → ⊥) → wholly (bytes_in u) form_asked ≡ other
unfolding bytes_in
no_form [] f g = refl
no_form (a ∷ []) f g = refl
no_form (a ∷ b ∷ []) f g = refl
no_form (a ∷ b ∷ c ∷ []) f g = absurd (f refl)
no_form (a ∷ b ∷ c ∷ d ∷ []) f g = short (byte_item a b c)
no_form (a ∷ b ∷ c ∷ d ∷ e ∷ []) f g = short (byte_item a b c)
no_form (a ∷ b ∷ c ∷ d ∷ e ∷ k ∷ []) f g = absurd (g refl)
no_form (a ∷ b ∷ c ∷ d ∷ e ∷ k ∷ x ∷ rest) f g = more (byte_item a b c) (byte_item d e k) x rest

pub none_form : (t : List ℕ) → (length t ≡ 4 → ⊥) → (length t ≡ 7 → ⊥) → None ≡ say_ask (taking_in t)
unfolding taking_in say_ask
none_form t f g =
    let e = no_form (drop 1 t) (λ d. f (omega (arith, length-drop 1 t))) (λ d. g (omega (arith, length-drop 1 t))) in
    ap say_ask (sym e)
