-- The first byte of what a packet is taken as is the packet's own.
use Prim.Native.Nat.{ℕ, ◌<◌}
use native.Mathlib.Omega.{arith}
use mathlib.Core.Path.{◌≡◌, refl, sym, ap, ◌∙◌}
use mathlib.Core.List.{List, [], ◌∷◌}
use mathlib.Core.Bool.{true, false, not, ◌||◌}
use borrow.Author.Tests.{eqb-true, eqb-false, not-false}
use lib.Dec.{ltb, eqb}
use lib.IntN.{pos, negsuc}
use lib.ListN.{length, get_or}
use Rattle.packets.specs.declared.Parsed.{Parsed}
use Rattle.packets.specs.Commands.{CommandRow, command_rows, find_in, listed_in, code_row, is_code, command_place, command_row, parsed_said}
use Rattle.packets.specs.Reading.{first, second, crc_right, acknowledges, packet_read}
use Rattle.rows.proofs.Bool.{split, by-test}

pub not_empty : (p : List ℕ) → eqb (length p) 0 ≡ false → 0 < length p
not_empty p z = omega (arith, eqb-false (length p) 0 z)

-- each row's command has the row's code
abbrev Coded : List ℕ → List CommandRow → Type 0
Coded p [] = Unit {0}
Coded p (r ∷ rs) = ((command_row (r.command p)).code ≡ r.code) × Coded p rs

found : (p : List ℕ) (rs : List CommandRow) (k : ℕ) → Coded p rs → listed_in rs k ≡ true → (command_row ((find_in rs k).command p)).code ≡ k
unfolding listed_in find_in
found p [] k c h = let z : ◌≡◌ {A = ℕ} 0 1 = cc in absurd (omega arith)
found p (r ∷ rs) k c h =
    split (eqb k r.code) (λ e. simp e (c.0 ∙ sym (eqb-true k r.code e))) (λ e. simp e (found p rs k c.1 (simp e at h)))

code_found : (p : List ℕ) (k : ℕ) → is_code k ≡ true → (command_row ((code_row k).command p)).code ≡ k
unfolding is_code code_row command_row command_place
code_found p k = found p command_rows k (refl, (refl, (refl, (refl, (refl, (refl, (refl, (refl, tt))))))))

-- what is not empty is taken as something, and the first byte said is the packet's
pub named : (p : List ℕ) → 0 < length p → get_or (parsed_said (packet_read p)) 1 (negsuc 0) ≡ pos (first p)
unfolding packet_read parsed_said
named p n =
    let P : Parsed → Type 0 = λ x. get_or (parsed_said x) 1 (negsuc 0) ≡ pos (first p) in
    by-test P (eqb (length p) 0) (λ e. absurd (omega (arith, eqb-true (length p) 0 e)))
    (λ e. by-test P (ltb (length p) 4 || not (crc_right p)) (λ e. refl)
    (λ e. by-test P (acknowledges p) (λ e. refl)
    (λ e. by-test P (not (is_code (first p))) (λ e. refl)
    (λ known. by-test P (not (eqb (second p) 0x01)) (λ e. refl)
    (λ e. by-test P (not (eqb (length p) (code_row (first p)).bytes)) (λ e. refl)
    (λ e. ap pos (code_found p (first p) (not-false (is_code (first p)) known))))))))
