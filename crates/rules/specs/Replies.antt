-- What Status, a parameter read, a receive and a sample set are answered, by the events before them.
-- Assumes nothing.
use Rattle.std.specs.Prelude.{ℕ, ◌+◌, ◌*◌, ◌/◌, ◌%◌, min, Bool, false, not, ◌&&◌, cond, List, [], ◌∷◌, eqb, ltb, length, get_or, replicate}
use Rattle.std.proofs.lemmas.List.Edits.{sets}
use Rattle.blocks.specs.declared.Store.{Store}
use Rattle.blocks.specs.declared.Store.TheVariants.{Priority, Ordinary}
use Rattle.packets.specs.declared.Report.{Report}
use Rattle.packets.specs.Commands.{command_row}
use Rattle.packets.specs.Answers.{error_answer, status_answer, value_answer, data_answer}
use Rattle.params.specs.Rows.{param_ids, param_row}
use Rattle.params.specs.Rules.{is_id, filter}
use Rattle.rules.specs.State.{remaining_of}
use Rattle.rules.specs.Obey.{receives}
use Rattle.rules.specs.History.{Event, fold, awake_by, waiting_by, nothing_waits, fielded_by, fresh_fielded, value_by, mark_by}
use Rattle.rules.specs.Halves.{Flow, Handing, in_hand}

abbrev pub awake_from : List Event → Bool
awake_from es = fold awake_by false es

abbrev pub waiting_from : Store → List Event → List (List ℕ)
waiting_from s es = (fold (waiting_by s) nothing_waits es).blocks

-- "mode, flags 2, priority blocks waiting 2, ordinary blocks waiting 4, request 0, eight ids: the asked parameters not written
-- since Initialise, rising, then zeros"
unfoldable pub report_from : List Event → Report
report_from es =
    record {
      mode = (fold fielded_by fresh_fielded es).fields.mode;
      flags = (fold fielded_by fresh_fielded es).fields.flags;
      priority = length (waiting_from Priority es);
      ordinary = length (waiting_from Ordinary es);
      ids = sets (replicate 8 0) 0 (filter (λ id. (param_row id).asked && not (fold (mark_by id) false es)) param_ids);
    }

-- the answer to a Status: "Not initialised, and not 0x90: 0x38", else that report
unfoldable pub status_from : List Event → List ℕ
status_from es = cond (awake_from es) (status_answer 0x91 (report_from es)) (error_answer 0x91 0x38)

-- the answer to a parameter read: 0x38; "Ids 0 and over 12 get 0x39"; else what was last written since Initialise, or the start
unfoldable pub read_answered : ℕ → List Event → List ℕ
read_answered id es =
    cond (not (awake_from es)) (error_answer 0x94 0x38)
    (cond (is_id id) (value_answer 0x94 id (fold (value_by id) (param_row id).start es)) (error_answer 0x94 0x39))

-- the answer to a receive: 0x38; "Nothing waiting: 0x3A. Then remaining is 0: 0x3B."; else the first block that waits
unfoldable pub received_of : ℕ → Bool → List (List ℕ) → ℕ → List ℕ
received_of code awake blocks remaining =
    cond (not awake) (error_answer code 0x38)
    (cond (eqb (length blocks) 0) (error_answer code 0x3A)
    (cond (eqb remaining 0) (error_answer code 0x3B)
    (data_answer code (get_or blocks 0 []))))

-- all three being the history's
unfoldable pub received_from : Store → List Event → List ℕ
received_from s es =
    received_of (command_row (receives s)).code (awake_from es) (waiting_from s es) (remaining_of s (fold fielded_by fresh_fielded es).fields)

-- the two frames of eight averages, by what the pipe's calls put in, awake or not, with the self-check number: "channels 1 to 3 and
-- 5 to 7, low byte, then bits 9 and 8. In AN03: input timeouts in 0.7-4; 3.7 is 1 when 1 to 7 bytes are gathered; 5.2 is 1 when
-- initialised; the self-check number in 7.6-2; all else 0"; request No. 3: "AN03 then carries the count in 0.3-0 and output busy in 5.7"
unfoldable pub frames_from : List ℕ → Flow → Handing → Bool → ℕ → List ℕ
frames_from a f h awake check =
    (min f.timeouts 15 * 16 + min h.timeouts 15) ∷ 0
    ∷ (get_or a 1 0 % 256) ∷ (cond (ltb 0 (length f.gathered)) 128 0 + get_or a 1 0 / 256)
    ∷ (get_or a 2 0 % 256) ∷ (cond (ltb 0 (length (in_hand h.packets))) 128 0 + cond awake 4 0 + get_or a 2 0 / 256)
    ∷ (get_or a 3 0 % 256) ∷ (check * 4 + get_or a 3 0 / 256)
    ∷ 0 ∷ 0
    ∷ (get_or a 5 0 % 256) ∷ (get_or a 5 0 / 256)
    ∷ (get_or a 6 0 % 256) ∷ (get_or a 6 0 / 256)
    ∷ (get_or a 7 0 % 256) ∷ (get_or a 7 0 / 256)
    ∷ []
