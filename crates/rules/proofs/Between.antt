-- What a call is to an open transfer: a table word, or a call that leaves the port and what is lent to it as they were, or one that ends
-- all.
-- Assumes nothing.
use Prim.Native.Nat.{ℕ}
use mathlib.Core.Path.{◌≡◌, refl, ap}
use mathlib.Core.Bool.{Bool, true, false, not}
use mathlib.Core.List.{List, [], ◌∷◌, ◌++◌}
use Rattle.rows.specs.Rows.{Row, Clear, none, past}
use Rattle.rows.proofs.Bool.{by-test}
use Rattle.rows.proofs.Laws.{ran_clear}
use Rattle.blocks.specs.declared.Store.{Store}
use Rattle.packets.specs.declared.Command.{Command}
use Rattle.packets.specs.declared.Command.TheVariants.{Initialise, Status, Update, Write, Read, Priority, Data, Shutdown}
use Rattle.packets.specs.Commands.{command_row}
use Rattle.tables.specs.declared.Transfer.TheVariants.{Idle}
use Rattle.tables.specs.Port.{start_words, close_of}
use Rattle.rules.specs.State.{desk_in, fresh_pod}
use Rattle.rules.specs.Obey.{initialised_pod, done_by}
use Rattle.rules.specs.Refusals.{state_row}
use Rattle.rules.specs.Families.{WordCall, LoneCall}
use Rattle.rules.specs.Traits.{traits}
use Rattle.rules.specs.Calls.{answered, word_call, packet_heard, spoken_bytes, reply_bytes}
use Rattle.rules.specs.World.{World, Call, power, packet, put, word, lone, samples, Stepped, step, rows_of, next, final}
use Rattle.rules.specs.History.{Event, words, obeyed_as, event_of}
use Rattle.rules.specs.Transfers.{Fit, cuts}
use Rattle.rules.proofs.Happens.{Happens, by_rows, by_power, by_empty, by_damage, by_acknowledgement, by_check, by_command, by_put, by_lone, by_word, by_samples, obeying, wording}
use Rattle.rules.proofs.WordRows.{rowed}
use Rattle.rules.proofs.Succeeded.{error_fails, room_at}
use Rattle.rules.proofs.Eventful.{command_succeeds}
use Rattle.rules.proofs.Untouched.{acknowledged_untouched}

-- the world after some calls and then some more
pub final_then : (w : World) (bs cs : List Call) → final w (bs ++ cs) ≡ final (final w bs) cs
unfolding final
final_then w [] cs = refl
final_then w (c ∷ bs) cs = final_then (next w c) bs cs

-- ---- a table word

fit_clear : {w : World} → Fit w → (x : WordCall) → Clear (rows_of w (word x))
unfolding rows_of
fit_clear {w} h x =
    let last = past (ap not h.sound) none in
    rw ((rowed x).rows w.lent.tables) (by-test (λ (rs : List Row). Clear (rs ++ (state_row w.pod ∷ []))) (traits x).lent (λ e. past (ap not h.tables) last) (λ e. last))

-- in a world that is fit for it it takes place
pub word_fit : (w : World) → Fit w → (x : WordCall) → step w (word x) ≡ wording x w
unfolding step rows_of word_call
word_fit w h x = rw (ran_clear w.pod (desk_in w.lent) _ (fit_clear h x))

pub word_event : (w : World) → Fit w → (x : WordCall) → event_of (word x) (step w (word x)).told ≡ words x
unfolding event_of
word_event w h x = ap (λ (s : Stepped). event_of (word x) s.told) (word_fit w h x)

-- ---- any other call

pub data Other : Call → Type 0 where
  powers : Other power
  sends : (b room : List ℕ) → Other (packet b room)
  puts : (s : Store) (b : List ℕ) → Other (put s b)
  touches : (c : LoneCall) → Other (lone c)
  shows : (k : ℕ) (xs : List ℕ) → Other (samples k xs)

pub data Which : Call → Type 0 where
  says : (x : WordCall) → Which (word x)
  other : {c : Call} → Other c → Which c

pub which : (c : Call) → Which c
which power = other powers
which (packet b room) = other (sends b room)
which (put s b) = other (puts s b)
which (word x) = says x
which (lone c) = other (touches c)
which (samples k xs) = other (shows k xs)

-- the port and what is lent to it are as they were
pub record Kept (w v : World) : Type 0 where
  pub words : v.pod.words ≡ w.pod.words
  pub desk : desk_in v.lent ≡ desk_in w.lent

-- what it is to an open transfer, by its event
pub data Ported (w : World) : Event → World → Type 0 where
  apart : (e : Event) (v : World) → ((f : WordCall → Bool) → cuts f e ≡ false) → Kept w v → Ported w e v
  ends : (e : Event) (v : World) → ((f : WordCall → Bool) → cuts f e ≡ true) → v.pod.words.transfer ≡ Idle → v.lent.load ≡ w.lent.load
      → Ported w e v

still : (w : World) → Kept w w
still w = record { words = refl; desk = refl }

-- a command answered without error
command-ported : (w : World) (room : List ℕ) (c : Command) → Ported w (obeyed_as c) (obeying c room w).world
unfolding done_by answered cuts initialised_pod fresh_pod start_words close_of
command-ported w room (Initialise f) = ends _ _ (λ g. refl) refl refl
command-ported w room Status = apart _ _ (λ g. refl) (record { words = refl; desk = refl })
command-ported w room (Update f) = apart _ _ (λ g. refl) (record { words = refl; desk = refl })
command-ported w room (Write id v) = apart _ _ (λ g. refl) (record { words = refl; desk = refl })
command-ported w room (Read id) = apart _ _ (λ g. refl) (record { words = refl; desk = refl })
command-ported w room Priority = apart _ _ (λ g. refl) (record { words = refl; desk = refl })
command-ported w room Data = apart _ _ (λ g. refl) (record { words = refl; desk = refl })
command-ported w room Shutdown = ends _ _ (λ g. refl) refl refl

pub ported : {w : World} {c : Call} {s : Stepped} → Other c → Happens w c s → Ported w (event_of c s.told) s.world
unfolding event_of cuts fresh_pod start_words packet_heard answered spoken_bytes reply_bytes
ported {w} o (by_rows c n f) = apart _ _ (λ g. refl) (still w)
ported o (by_power k) = ends _ _ (λ g. refl) refl refl
ported {w} o (by_empty b room k e) = rw e (apart _ _ (λ g. refl) (still w))
ported o (by_damage b room first n k e) = rw e (apart _ _ (λ g. refl) (record { words = refl; desk = refl }))
ported {w} o (by_acknowledgement b room first one k e) =
    rw e (apart _ _ (λ g. refl) (record { words = (acknowledged_untouched first one w.pod).words; desk = refl }))
ported {w} o (by_check b room c n k e f) =
    rw (e, error_fails room (command_row c).code n (room_at w b room k)) (apart _ _ (λ g. refl) (record { words = refl; desk = refl }))
ported {w} o (by_command b room c k e q) = rw (e, command_succeeds w room (room_at w b room k) c) (command-ported w room c)
ported o (by_put s b k) = apart _ _ (λ g. refl) (record { words = refl; desk = refl })
ported o (by_lone c k) = apart _ _ (λ g. refl) (record { words = refl; desk = refl })
ported {w} o (by_samples k xs q) = apart _ _ (λ g. refl) (still w)
ported {w = w} o (by_word c _) = elim o [ ]
