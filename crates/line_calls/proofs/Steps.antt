-- A line is answered as the rules say, from what the pod's call promises and what is printed of it.
-- Assumes nothing.
use Rattle.std.proofs.Common.{◌≡◌, ℕ, ◌≤◌, refl, sym, ap, subst, ◌∙◌, arith, List, [], take, Some}
use Rattle.rows.specs.Rows.{Said, gave, out}
use Rattle.blocks.specs.declared.Store.{Store}
use Rattle.blocks.specs.declared.Store.TheVariants.{Priority, Ordinary}
use Rattle.tables.specs.Tables.{three}
use Rattle.tables.specs.Port.{desk}
use Rattle.pipe.specs.declared.Sent.{Sent}
use Rattle.pipe.specs.Input.{sent_packet, sent_bytes}
use Rattle.frames.specs.declared.Frames.{Frames}
use Rattle.rules.specs.declared.Pod.{Pod}
use Rattle.rules.specs.State.{store_in}
use Rattle.rules.specs.Refusals.{Giving, done}
use Rattle.rules.specs.Families.{WordCall, PipeCall}
use Rattle.rules.specs.Families as family
use Rattle.rules.specs.Calls.{roomed, power_call, packet_call, put_call, word_call, lone_call, samples_call}
use Rattle.rules.specs.World.{World, world, lone, Told, told, Stepped, stepped, over_tables, over_room, over_store, over_desk, over_sent, over_frames, frames_in, step}
use Rattle.lines.specs.Letters.{letter_p, letter_d, letter_b, letter_c, letter_w, letter_r, letter_s, letter_a, letter_i, letter_t, letter_o, letter_k, letter_z}
use Rattle.lines.specs.Asked.{Asked, packet, deadline, put, command, data_in, data_out, status, samples, ask_byte, ask_timeout, ask_out, ask_taken, power, other}
use Rattle.items.specs.Characters.{question}
use Rattle.items.specs.declared.output.Output.{Output}
use Rattle.items.specs.Output.{Written}
use Rattle.items.proofs.Behind.{longer}
use Rattle.answers.specs.Answers.{plain, listing, form_of, said_line, line_text}
use Rattle.line_calls.specs.declared.Memory.{Memory}
use Rattle.line_calls.specs.Calls.{call_of, step_if, line_step, room_after}
use Rattle.line_calls.specs.Memory.{memory, lent_in}
use Rattle.line_calls.specs.Promise.{step_of, LineAnswered}
use Rattle.line_calls.proofs.Short.{packet_said}

-- the memory with one part changed
abbrev pub with_store_at : Store → List ℕ → Memory → Memory
with_store_at Priority x m = memory m.room x m.ordinary m.five m.six m.seven m.load
with_store_at Ordinary x m = memory m.room m.priority x m.five m.six m.seven m.load

abbrev pub with_tables_at : List ℕ → List ℕ → List ℕ → Memory → Memory
with_tables_at five six seven m = memory m.room m.priority m.ordinary five six seven m.load

abbrev pub with_room_at : List ℕ → Memory → Memory
with_room_at room m = memory room m.priority m.ordinary m.five m.six m.seven m.load

abbrev pub with_load_at : List ℕ → Memory → Memory
with_load_at load m = memory m.room m.priority m.ordinary m.five m.six m.seven load

-- what is asked in other words
pub answered_as : {p q : Pod} {m m' : Memory} {o o' : Output} {a b : Asked} → a ≡ b → LineAnswered b p q m m' o o' → LineAnswered a p q m m' o o'
answered_as {p = p} {q = q} {m = m} {m' = m'} {o = o} {o' = o'} e h = subst (λ (x : Asked). LineAnswered x p q m m' o o') (sym e) h

module _ (p : Pod) (m : Memory) (o o' : Output) (s : Said Giving) (q : Pod) where
  abbrev w : World
  w = world p (lent_in m)

  -- the step, what it tells, and what is printed
  answered_by : (a : Asked) (m' : Memory) (bs text : List ℕ) (n : ℕ) → n ≤ 784
      → step_of a p m ≡ stepped s bs q (lent_in m') → m'.room ≡ room_after a m.room (told s bs) → text ≡ line_text a (told s bs)
      → Written text n o o' → LineAnswered a p q m m' o o'
  answered_by a m' bs text n h e er et t =
      record {
        world = ap (λ (x : Stepped). x.world) (sym e);
        room = er ∙ ap (λ (x : Stepped). room_after a m.room x.told) (sym e);
        printed = subst (λ (x : List ℕ). Written x 784 o o') (et ∙ ap (λ (x : Stepped). line_text a x.told) (sym e)) (longer 784 h t);
      }

  -- a call whose answer lists no bytes prints at most seven characters
  abbrev Prints : ℕ → Type 0
  Prints letter = Written (said_line (plain letter) s []) 7 o o'

  pub by_deadline : out s q (sent_packet []) ≡ lone_call family.deadline p → Prints letter_d → LineAnswered deadline p q m m o o'
  unfolding line_step call_of step line_text form_of room_after sent_packet sent_bytes
  by_deadline e t = answered_by deadline m [] _ 7 (omega arith) (ap (λ x. over_sent x w) (sym e)) refl refl t

  pub by_power : (five six seven : List ℕ) → out s q (three five six seven) ≡ power_call (three m.five m.six m.seven) p → Prints letter_z
      → LineAnswered power p q m (with_tables_at five six seven m) o o'
  unfolding line_step call_of step line_text form_of room_after
  by_power five six seven e t =
      answered_by power (with_tables_at five six seven m) [] _ 7 (omega arith) (ap (λ x. over_tables x w) (sym e)) refl refl t

  pub by_put : (which : Store) (b store : List ℕ) → out s q store ≡ put_call which b (store_in which (lent_in m)) p → Prints letter_b
      → LineAnswered (put which b) p q m (with_store_at which store m) o o'
  unfolding line_step call_of step line_text form_of room_after
  by_put Priority b store e t =
      answered_by (put Priority b) (with_store_at Priority store m) [] _ 7 (omega arith) (ap (λ x. over_store Priority x w) (sym e)) refl refl t
  by_put Ordinary b store e t =
      answered_by (put Ordinary b) (with_store_at Ordinary store m) [] _ 7 (omega arith) (ap (λ x. over_store Ordinary x w) (sym e)) refl refl t

  pub by_packet : (b room five six seven : List ℕ)
      → out s q (roomed room (lent_in (with_tables_at five six seven m))) ≡ packet_call b (roomed m.room (lent_in m)) p
      → Written (said_line (plain letter_p) s (take 260 room)) 784 o o'
      → LineAnswered (packet b) p q m (with_room_at room (with_tables_at five six seven m)) o o'
  unfolding line_step call_of step line_text form_of room_after
  by_packet b room five six seven e t =
      let steps = ap (λ x. over_room x w) (sym e) in
      answered_by (packet b) (with_room_at room (with_tables_at five six seven m)) room _ 784 (omega arith) steps refl
      (packet_said w b m.room room s (ap (λ x. x.told.said) steps)) t

  pub by_samples : (f : Frames) (k : ℕ) (xs : List ℕ) → q ≡ p → out s p f ≡ samples_call k xs p
      → Written (said_line (listing letter_a) s (frames_in s f)) 52 o o' → LineAnswered (samples k xs) p q m m o o'
  unfolding line_step call_of step line_text form_of room_after
  by_samples f k xs same e t =
      answered_by (samples k xs) m (frames_in s f) _ 52 (omega arith)
      (ap (λ x. over_frames x w) (sym e) ∙ ap (λ (x : Pod). stepped s (frames_in s f) x (lent_in m)) (sym same)) refl refl t

  -- a pipe call
  module _ (sent : Sent) where
    -- whichever line asks it, behind its letter
    by_pipe : (a : Asked) (k : PipeCall) (l : ℕ) → call_of a m.room ≡ Some (lone (family.pipe k)) → form_of a ≡ listing l
        → ((t : Told) → room_after a m.room t ≡ m.room) → out s q sent ≡ lone_call (family.pipe k) p
        → Written (said_line (listing l) s (sent_bytes sent)) 28 o o' → LineAnswered a p q m m o o'
    unfolding line_step step line_text
    by_pipe a k l asks forms kept e t =
        answered_by a m (sent_bytes sent) _ 28 (omega arith) (ap (λ x. step_if x w) asks ∙ ap (λ x. over_sent x w) (sym e)) (sym (kept _))
        (ap (λ f. said_line f s (sent_bytes sent)) (sym forms)) t

    abbrev Passes : PipeCall → ℕ → Asked → Type 0
    Passes k l a = out s q sent ≡ lone_call (family.pipe k) p → Written (said_line (listing l) s (sent_bytes sent)) 28 o o' → LineAnswered a p q m m o o'

    pub by_byte : (b : ℕ) → Passes (family.byte b) letter_i (ask_byte b)
    unfolding call_of form_of room_after
    by_byte b = by_pipe (ask_byte b) (family.byte b) letter_i refl refl (λ t. refl)

    pub by_timeout : Passes family.timeout letter_t ask_timeout
    unfolding call_of form_of room_after
    by_timeout = by_pipe ask_timeout family.timeout letter_t refl refl (λ t. refl)

    pub by_out : (b : List ℕ) → Passes (family.packet_out b) letter_o (ask_out b)
    unfolding call_of form_of room_after
    by_out b = by_pipe (ask_out b) (family.packet_out b) letter_o refl refl (λ t. refl)

    pub by_taken : Passes family.taken letter_k ask_taken
    unfolding call_of form_of room_after
    by_taken = by_pipe ask_taken family.taken letter_k refl refl (λ t. refl)

  -- the four table words
  abbrev Words : WordCall → Memory → Type 0
  Words x m' = out s q (desk (three m'.five m'.six m'.seven) m'.load) ≡ word_call x (desk (three m.five m.six m.seven) m.load) p

  pub by_command : (v : ℕ) (five six seven : List ℕ) → Words (family.command v) (with_tables_at five six seven m) → Prints letter_c
      → LineAnswered (command v) p q m (with_tables_at five six seven m) o o'
  unfolding line_step call_of step line_text form_of room_after
  by_command v five six seven e t =
      answered_by (command v) (with_tables_at five six seven m) [] _ 7 (omega arith) (ap (λ x. over_desk x w) (sym e)) refl refl t

  pub by_data : (v : ℕ) (five six seven load : List ℕ) → Words (family.data_in v) (with_load_at load (with_tables_at five six seven m)) → Prints letter_w
      → LineAnswered (data_in v) p q m (with_load_at load (with_tables_at five six seven m)) o o'
  unfolding line_step call_of step line_text form_of room_after
  by_data v five six seven load e t =
      answered_by (data_in v) (with_load_at load (with_tables_at five six seven m)) [] _ 7 (omega arith) (ap (λ x. over_desk x w) (sym e)) refl refl t

  pub by_read : Words family.data_out m → Prints letter_r → LineAnswered data_out p q m m o o'
  unfolding line_step call_of step line_text form_of room_after
  by_read e t = answered_by data_out m [] _ 7 (omega arith) (ap (λ x. over_desk x w) (sym e)) refl refl t

  pub by_status : Words family.status m → Prints letter_s → LineAnswered status p q m m o o'
  unfolding line_step call_of step line_text form_of room_after
  by_status e t = answered_by status m [] _ 7 (omega arith) (ap (λ x. over_desk x w) (sym e)) refl refl t

-- a line that calls nothing
pub by_other : (p : Pod) (m : Memory) (o o' : Output) → Written (said_line (plain question) (gave done) []) 2 o o' → LineAnswered other p p m m o o'
unfolding line_step call_of line_text form_of room_after
by_other p m o o' t = record { world = refl; room = refl; printed = longer 784 (omega arith) t }
