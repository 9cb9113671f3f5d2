-- Every reply of the pod is read as what the pod meant.
-- Assumes nothing.
use Prim.Native.Nat.{ℕ, ◌^◌, ◌<◌}
use native.Mathlib.Omega.{arith}
use mathlib.Core.Path.{◌≡◌, refl, ap, ◌∙◌}
use mathlib.Core.Bool.{true, ◌||◌}
use mathlib.Core.List.{List}
use lib.Dec.{eqb}
use Rattle.rows.specs.Rows.{Clear, Said, gave, Out}
use Rattle.rows.proofs.Laws.{ran-case}
use Rattle.blocks.specs.declared.Store.{Store}
use Rattle.blocks.specs.declared.Store.TheVariants as store
use Rattle.blocks.specs.Stores.{store_sized}
use Rattle.blocks.proofs.Places.{bounds}
use Rattle.packets.specs.declared.Command.{Command}
use Rattle.packets.specs.declared.Command.TheVariants.{Initialise, Status, Update, Write, Read, Priority, Data, Shutdown}
use Rattle.packets.specs.Commands.{command_row, command_place}
use Rattle.packets.specs.Reading.{third}
use Rattle.packets.specs.Answers.{with_crc, answer_of}
use Rattle.params.specs.Rules.{value_at}
use Rattle.params.proofs.Inside.{kept-length}
use Rattle.params.proofs.Narrow.{value_small}
use Rattle.rules.specs.declared.Pod.{Pod}
use Rattle.rules.specs.State.{Lent, store_in}
use Rattle.rules.specs.Obey.{Meant, shut, checks_of, done_by, obey_of, report_of}
use Rattle.rules.specs.Calls.{meant_body, reply_bytes}
use Rattle.rules.proofs.Inside.{PodIn, pod_in, in_shut}
use Rattle.rules.proofs.Replied.{shown_by}
use Rattle.rules.proofs.Checked.{oldest_long, answer_long, sized_in}
use Rattle.airframe.specs.Reading.{block, body_meant, read_as}
use Rattle.airframe.proofs.Answers.{error_read, success-read, report_back, value_back, block_back}
use Rattle.both_ends.specs.Ends.{told_by, MeantIsRead}

-- ---- a command that passes its checks

module _ (l : Lent) (p : Pod) (inside : PodIn p) (flags : p.fields.flags < 2 ^ 16) (sized : (s : Store) → store_sized s (store_in s l) ≡ true) where
  abbrev answer : Command → List ℕ
  answer c = answer_of (command_row c).code 0x01 (shown_by c l p)

  -- the answer is read by its body
  shown : (c : Command) → Clear (checks_of c p) → (eqb (command_row c).kind 2 || eqb (third (answer c)) 0x7E) ≡ true
      → read_as (command_row c).code (answer c) ≡ gave (body_meant ((command_row c).command (answer c)) (answer c))
  shown c q t = success-read c (shown_by c l p) (answer_long l p inside sized c q) t

  -- and that is what the command gives
  done-read : (c : Command) → Clear (checks_of c p)
      → read_as (command_row c).code (answer c) ≡ gave (told_by (gave (done_by c l p).said) (done_by c l p).pod (done_by c l p).lent)
  unfolding command_row command_place checks_of done_by meant_body report_of told_by body_meant answer_of with_crc
  done-read (Initialise f) q = shown (Initialise f) q refl
  done-read Status q =
      shown Status q refl
      ∙ ap gave (report_back 0x91 (report_of p) flags (omega (arith, bounds 16 p.priority inside.priority)) (omega (arith, bounds 128 p.ordinary inside.ordinary)) (kept-length p.params inside.params))
  done-read (Update f) q = shown (Update f) q refl
  done-read (Write id v) q = shown (Write id v) q refl
  done-read (Read id) q = shown (Read id) q refl ∙ ap gave (value_back 0x94 id (value_at p.params id) (value_small p.params id inside.params))
  done-read Priority q = shown Priority q refl ∙ ap (λ (b : List ℕ). gave (block b)) (block_back 0x95 _ (oldest_long l p inside sized store.Priority q))
  done-read Data q = shown Data q refl ∙ ap (λ (b : List ℕ). gave (block b)) (block_back 0x96 _ (oldest_long l p inside sized store.Ordinary q))
  done-read Shutdown q = shown Shutdown q refl

-- ---- every command

pub meant_is_read : MeantIsRead
unfolding obey_of reply_bytes told_by
meant_is_read c l p n s =
    let q = shut p in
    ran-case
    (λ (o : Out (Said Meant) Pod Lent). read_as (command_row c).code (reply_bytes (command_row c).code o.said o.pod o.lent) ≡ gave (told_by o.said o.pod o.lent))
    (checks_of c q) (λ m f. error_read c m) (λ k. done-read l q (in_shut (pod_in p n.sound)) n.flags (sized_in l s) c k)
