-- How the parts of the packet call make its answer.
-- Assumes nothing.
use Prim.Native.Nat.{ℕ, ◌<◌}
use native.Mathlib.Omega.{arith}
use mathlib.Core.Path.{◌≡◌, refl, subst⁻¹}
use mathlib.Core.Bool.{Bool, true, false, cond}
use mathlib.Core.List.{List, [], ◌∷◌}
use lib.ListN.{length}
use lib.Dec.{ltb}
use borrow.Author.Tests.{eqb-false}
use Rattle.rows.specs.Rows.{Said, gave, Out, out, given, Clear, past, ran}
use Rattle.rows.proofs.Laws.{ran-case}
use Rattle.blocks.specs.declared.Store.{Store}
use Rattle.blocks.specs.declared.Store.TheVariants.{Priority, Ordinary}
use Rattle.blocks.specs.declared.Ring.{Ring}
use Rattle.blocks.specs.Stores.{capacity_of, store_of, sound_ring, oldest_of, store_sized}
use Rattle.blocks.proofs.Laws.{oldest_whole}
use Rattle.packets.specs.declared.Command.{Command}
use Rattle.packets.specs.declared.Command.TheVariants as command
use Rattle.packets.specs.declared.Parsed.TheVariants.{Asked}
use Rattle.packets.specs.Reading.{packet_read}
use Rattle.packets.specs.Answers.{Written}
use Rattle.packets.proofs.Laws.{nothing}
use Rattle.tables.specs.Tables.{Three, starts}
use Rattle.rules.specs.declared.Pod.{Pod}
use Rattle.rules.specs.State.{Lent, store_in, with_stores, with_tables, sound_pod, ring_of}
use Rattle.rules.specs.Refusals.{bytes}
use Rattle.rules.specs.Obey.{Meant, shut, checks_of, done_by, obey_of}
use Rattle.rules.specs.Calls.{roomed, replied, reply_bytes, spoken_bytes, written, answered, packet_call}
use Rattle.rules.proofs.Inside.{PodIn, in_pod, pod_in, ring_in, in_shut}
use Rattle.rules.proofs.Sound.{command_in}
use Rattle.packet_port.specs.Port.{Waits, sized_call}

-- a command's packet is not empty
pub asked_some : (b : List ℕ) (c : Command) → packet_read b ≡ Asked c → 0 < length b
asked_some [] c e = let n = nothing in let z : ◌≡◌ {A = ℕ} 0 1 = cc in absurd (omega arith)
asked_some (b ∷ bs) c e = omega arith

-- what a promise says whatever is lent, it says of nothing
pub bare : Lent
bare = record { priority = []; ordinary = []; tables = starts; load = [] }

-- ---- a command leaves a sound pod, and a block that it shows waits

Shown : Out (Said Meant) Pod Lent → Type 0
Shown o = PodIn o.pod × Waits o.said o.pod

shown_waits : (c : Command) (l : Lent) (p : Pod) → Clear (checks_of c p) → Waits (gave (done_by c l p).said) (done_by c l p).pod
unfolding checks_of done_by
shown_waits (command.Initialise f) l p k s e = let z : ◌≡◌ {A = ℕ} 0 1 = cc in omega arith
shown_waits command.Status l p k s e = let z : ◌≡◌ {A = ℕ} 0 1 = cc in omega arith
shown_waits (command.Update f) l p k s e = let z : ◌≡◌ {A = ℕ} 0 1 = cc in omega arith
shown_waits (command.Write id v) l p k s e = let z : ◌≡◌ {A = ℕ} 0 1 = cc in omega arith
shown_waits (command.Read id) l p k s e = let z : ◌≡◌ {A = ℕ} 0 1 = cc in omega arith
shown_waits command.Priority l p (past on (past w k)) s e =
    let is : s ≡ Priority = cc in rw is (let some = eqb-false p.priority.waiting 0 w in omega arith)
shown_waits command.Data l p (past on (past w k)) s e =
    let is : s ≡ Ordinary = cc in rw is (let some = eqb-false p.ordinary.waiting 0 w in omega arith)
shown_waits command.Shutdown l p k s e = let z : ◌≡◌ {A = ℕ} 0 1 = cc in omega arith

obeyed-shown : (c : Command) (l : Lent) (p : Pod) → PodIn p → Shown (obey_of c l (shut p))
unfolding obey_of Shown
obeyed-shown c l p h =
    ran-case Shown (checks_of c (shut p)) (λ n f. (in_shut h, λ s e. let z : ◌≡◌ {A = ℕ} 0 1 = cc in omega arith))
    (λ k. (command_in c l (shut p) k refl (in_shut h), shown_waits c l (shut p) k))

obeyed-ready : (c : Command) (p q : Pod) (l m : Lent) (s : Said Meant) → out s q m ≡ obey_of c l (shut p) → sound_pod p ≡ true → Shown (out s q m)
unfolding Shown
obeyed-ready c p q l m s does ok = subst⁻¹ Shown does (obeyed-shown c l p (pod_in p ok))

pub obeyed_sound : (c : Command) (p q : Pod) (l m : Lent) (s : Said Meant) → out s q m ≡ obey_of c l (shut p) → sound_pod p ≡ true → sound_pod q ≡ true
unfolding Shown
obeyed_sound c p q l m s does ok = in_pod (obeyed-ready c p q l m s does ok).0

pub obeyed_waits : (c : Command) (p q : Pod) (l m : Lent) (s : Said Meant) → out s q m ≡ obey_of c l (shut p) → sound_pod p ≡ true → Waits s q
unfolding Shown
obeyed_waits c p q l m s does ok = (obeyed-ready c p q l m s does ok).1

-- ---- a block of either store

pub stores_in : (s : Store) (a b : List ℕ) (l : Lent) → store_in s (with_stores a b l) ≡ store_of s a b
stores_in Priority a b l = refl
stores_in Ordinary a b l = refl

pub ring_sound : (s : Store) (p : Pod) → sound_pod p ≡ true → sound_ring (capacity_of s) (ring_of s p) ≡ true
ring_sound s p ok = ring_in (pod_in p ok) s

pub block_whole : (s : Store) (a b : List ℕ) (r : Ring) → length a ≡ 4096 → length b ≡ 32768 → sound_ring (capacity_of s) r ≡ true → 0 < r.waiting
    → length (oldest_of (capacity_of s) r (store_of s a b)) ≡ 256
block_whole Priority a b r h k ok w = oldest_whole 16 r a ok h w
block_whole Ordinary a b r h k ok w = oldest_whole 128 r b ok k w

-- ---- the answer

-- a writer's count and room, as the answer has them
pub written_is : (answer room : List ℕ) (p : Pod) (l : Lent) {after : List ℕ} {n : ℕ} → Written answer room after n
    → out (gave (bytes n)) p (roomed after l) ≡ given (written answer room p l)
written_is answer room p l w = rw (w.room, w.count)

pub replied_is : (first : ℕ) (room : List ℕ) (o : Out (Said Meant) Pod Lent) {m : Said Meant} {p : Pod} {l : Lent} {after : List ℕ} {n : ℕ}
    → out m p l ≡ o → Written (reply_bytes first m p l) room after n → out (gave (bytes n)) p (roomed after l) ≡ given (answered (replied first o) room)
unfolding answered spoken_bytes
replied_is first room o {m} {p} {l} e w = rw (← e) (written_is (reply_bytes first m p l) room p l w)

-- ---- the tables, at their starts or as they were

pub tables_moved : (restart : Bool) (t u : Three) (l : Lent) → u ≡ cond restart starts t → with_tables u l ≡ cond restart (with_tables starts (with_tables t l)) (with_tables t l)
tables_moved true t u l e = rw e
tables_moved false t u l e = rw e

-- ---- the rows that are left where the room and the stores have their sizes

pub sized_is : (b room a o : List ℕ) (t : Three) (l : Lent) (p : Pod) → ltb (length room) 260 ≡ false → store_sized Priority a ≡ true → store_sized Ordinary o ≡ true
    → sized_call b (roomed room (with_tables t (with_stores a o l))) p ≡ packet_call b (roomed room (with_tables t (with_stores a o l))) p
unfolding sized_call packet_call ran
sized_is b room a o t l p long i j = rw (long, i, j)
