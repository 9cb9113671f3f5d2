-- What a room of 25 bytes holds after something was built into it.
-- Assumes nothing.
use Prim.Native.Nat.{ℕ, ◌<◌, ◌≤◌}
use native.Mathlib.Omega.{arith}
use mathlib.Core.Path.{◌≡◌, sym, ap, ◌∙◌}
use mathlib.Core.Bool.{Bool, true, false}
use mathlib.Core.List.{List}
use lib.ListN.{length, take, get_or}
use lib.Seq.{sets, get_or-take}
use Rattle.rows.specs.Rows.{Said, refused, gave, Out, out, ran}
use Rattle.rows.proofs.Laws.{gave_not}
use Rattle.rows.proofs.Bool.{split}
use Rattle.numbers.proofs.Stores.{sets_taken}
use Rattle.packets.specs.declared.Command.{Command}
use Rattle.packets.specs.Commands.{command_row}
use Rattle.packets.specs.Answers.{with_crc, answer_of, command_bytes}
use Rattle.std.specs.Prelude.{Result, Ok, Err}
use Rattle.airframe.specs.declared.Refusal.{Refusal}
use Rattle.airframe.specs.Building.{build_of, refusal_number, built_said}

-- it stands at the start of the room, so many bytes
pub record Put (within : Bool) (bytes room : List ℕ) (n : ℕ) : Type 0 where
  pub inside : within ≡ true
  pub count : n ≡ length bytes
  pub taken : take n room ≡ bytes

abbrev Outcome : Type 0
Outcome = Out (Said ℕ) (Unit {0}) (List ℕ)

module _ (inside : Bool) (bytes room : List ℕ) (size : length room ≡ 25) where
  done : inside ≡ true → build_of inside bytes room ≡ out (gave (length bytes)) tt (sets room 0 bytes)
  unfolding build_of ran
  done e = rw (e, size)

  kept : inside ≡ false → build_of inside bytes room ≡ out (refused 20) tt room
  unfolding build_of ran
  kept e = rw e

  module _ (r : Result ℕ Refusal) (room' : List ℕ) (b : out (built_said r) tt room' ≡ build_of inside bytes room) where
    pub put : (n : ℕ) → length bytes ≤ 25 → r ≡ Ok n → Put inside bytes room' n
    unfolding built_said
    put n few e =
        split inside
        (λ t.
        let both = b ∙ done t in
        let said : gave n ≡ gave (length bytes) = sym (ap built_said e) ∙ ap (λ (o : Outcome). o.said) both in
        let m : n ≡ length bytes = cc in
        record { inside = t; count = m; taken = ap (λ (o : Outcome). take n o.lent) both ∙ sets_taken bytes room n (sym m) (omega arith) })
        (λ f.
        let said : gave n ≡ refused 20 = sym (ap built_said e) ∙ ap (λ (o : Outcome). o.said) (b ∙ kept f) in
        absurd (gave_not said))

    pub not_put : (x : Refusal) → r ≡ Err x → inside ≡ false
    unfolding built_said
    not_put x e =
        split inside
        (λ t.
        let said : refused (refusal_number x) ≡ gave (length bytes) = sym (ap built_said e) ∙ ap (λ (o : Outcome). o.said) (b ∙ done t) in
        absurd (gave_not (sym said)))
        (λ f. f)

-- a command begins with its code
pub code_first : (c : Command) (room : List ℕ) (n : ℕ) (inside : Bool) → Put inside (command_bytes c) room n → get_or room 0 0 ≡ (command_row c).code
unfolding command_bytes answer_of with_crc
code_first c room n inside p =
    let some : 0 < n = omega (arith, p.count) in
    sym (get_or-take n room 0 0 some) ∙ ap (λ (l : List ℕ). get_or l 0 0) p.taken
