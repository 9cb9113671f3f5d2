-- Building is refused by 20 and by 24, each exactly when its row holds and no lower one does, with the room as it came; else the
-- bytes stand at the start of the room.
-- Assumes nothing.
use Prim.Native.Nat.{ℕ, ◌<◌, ◌≤◌}
use native.Mathlib.Omega.{arith}
use native.Mathlib.Nat.{zero-add}
use mathlib.Core.Path.{◌≡◌, refl, sym}
use mathlib.Core.Bool.{Bool, true, false}
use mathlib.Core.List.{List, ◌++◌}
use borrow.Author.Tests.{ltb-true, ltb-false}
use lib.Dec.{ltb}
use lib.ListN.{length, drop}
use lib.Seq.{sets, sets-eq}
use Rattle.rows.specs.Rows.{ran}
use Rattle.rows.proofs.Bool.{split, never}
use Rattle.rows.proofs.Laws.{refused_same, gave_not}
use Rattle.packets.specs.Answers.{command_bytes}
use Rattle.airframe.specs.Building.{command_fits, first_fits, acknowledgement_bytes, build_of, command_built, acknowledgement_built}
use Rattle.airframe.specs.Statements.{Refuses, BuildingRefuses, AcknowledgingRefuses}
use Rattle.airframe.proofs.Carried.{few_bytes}
use Rattle.airframe.proofs.Acknowledged.{five_bytes}

-- two numbers are not one, and no room is under 25 and not
apart : {m n : ℕ} → m ≡ n → m < n → ⊥
apart e h = omega arith

under : {m n : ℕ} → m < n → n ≤ m → ⊥
under h k = omega arith

-- bytes that the room holds, and the rest of it
laid : (bytes room : List ℕ) → length bytes ≤ 25 → 25 ≤ length room → sets room 0 bytes ≡ bytes ++ drop (length bytes) room
laid bytes room few enough = rw (sets-eq bytes room 0 (omega arith), zero-add)

pub refuses : (inside : Bool) (bytes room : List ℕ) → length bytes ≤ 25
    → Refuses inside bytes room (build_of inside bytes room).said (build_of inside bytes room).lent
unfolding build_of ran
refuses false bytes room few =
    record { outside = (λ e. refl, λ e. refl); short = (λ e. absurd (apart (refused_same e) (omega arith)), λ h. never h.0 refl); kept = λ n e. refl; given = λ e. never e refl }
refuses true bytes room few =
    split (ltb (length room) 25)
    (λ h.
    rw h (
    record { outside = (λ e. absurd (apart (sym (refused_same e)) (omega arith)), λ e. never refl e); short = (λ e. (refl, ltb-true (length room) 25 h), λ e. refl); kept = λ n e. refl; given = λ e k. absurd (under (ltb-true (length room) 25 h) k) }
    ))
    (λ h.
    let enough = ltb-false (length room) 25 h in
    rw h (
    record { outside = (λ e. absurd (gave_not e), λ e. never refl e); short = (λ e. absurd (gave_not e), λ e. absurd (under e.1 enough)); kept = λ n e. absurd (gave_not e); given = λ e k. (refl, laid bytes room few k) }
    ))

pub building_refuses : BuildingRefuses
unfolding command_built
building_refuses c room = refuses (command_fits c) (command_bytes c) room (few_bytes c)

pub acknowledging_refuses : AcknowledgingRefuses
unfolding acknowledgement_built
acknowledging_refuses f form room = refuses (first_fits f) (acknowledgement_bytes f form) room (five_bytes f form)
