-- The two frames by the history: sixteen bytes whole.
-- Assumes nothing.
use Prim.Native.Nat.{ℕ, ◌*◌, ◌/◌, ◌%◌, ◌≤◌, ◌<◌, min}
use native.Mathlib.Omega.{arith}
use mathlib.Core.Path.{◌≡◌, sym, ap, ◌∙◌}
use mathlib.Core.Bool.{Bool, true, false, not, cond, false≢true, and-true}
use mathlib.Core.List.{List, ◌++◌}
use lib.Dec.{ltb, leb}
use lib.ListN.{length, get_or}
use borrow.Author.Tests.{le-leb}
use Rattle.rows.specs.Rows.{Clear, gave}
use Rattle.rows.proofs.Bool.{and_left, not-false}
use Rattle.rows.proofs.Laws.{clear_head, clear_rest}
use Rattle.pipe.specs.declared.Input.{Input}
use Rattle.pipe.specs.declared.Pipe.{Pipe}
use Rattle.pipe.specs.declared.Output.{Output}
use Rattle.pipe.specs.Input.{gathering_of}
use Rattle.pipe.specs.Output.{busy_of}
use Rattle.frames.specs.Fields.{bits_of, frame}
use Rattle.frames.specs.Layout.{lines03, lines47, frames_of}
use Rattle.frames.specs.Samples.{averages_of, bounded_of}
use Rattle.frames.proofs.Bytes.{bytes_03, bytes_47}
use Rattle.frames.proofs.Means.{average_fits, averages_at}
use Rattle.rules.specs.Refusals.{done}
use Rattle.rules.specs.World.{World, samples, told, Stepped, is_refused, rows_of, final, powered}
use Rattle.rules.specs.History.{events, fold}
use Rattle.rules.specs.Halves.{Flow, no_flow, flow_by, Handing, no_handing, handing_by, in_hand}
use Rattle.rules.specs.Replies.{frames_from}
use Rattle.rules.specs.Demands.{FramesAreHistory}
use Rattle.rules.proofs.Happens.{Happens, by_rows, by_samples, happens}
use Rattle.rules.proofs.Holds.{awake_is}
use Rattle.rules.proofs.Flow.{Flowing, many_gathered, flowing_is}
use Rattle.rules.proofs.Handed.{Handled, many_held, handed_is}

-- a flag at its bit
flag_at : (b : Bool) (n : ℕ) → cond b 1 0 * n ≡ cond b n 0
flag_at true n = omega arith
flag_at false n = omega arith

-- "when 1 to 7 bytes are gathered"
gathering_is : (i : Input) (n : ℕ) → i.gathered ≡ n → n ≤ 7 → gathering_of i ≡ ltb 0 n
unfolding gathering_of
gathering_is i n e h = rw (e, le-leb n 7 h) (and-true (leb 1 n))

-- something in hand
busy_is : (o : Output) (n : ℕ) → n ≡ o.hand → busy_of o ≡ ltb 0 n
unfolding busy_of
busy_is o n e = rw e

-- the bytes of the two frames, where every average has ten bits, with what the pipe shows
frames_bytes : (a : List ℕ) (p : Pipe) (on : Bool) (check : ℕ) (f : Flow) (h : Handing) → ((c : ℕ) → c < 8 → get_or a c 0 < 1024)
    → p.input.timeouts ≡ min f.timeouts 15 → gathering_of p.input ≡ ltb 0 (length f.gathered)
    → p.output.timeouts ≡ min h.timeouts 15 → busy_of p.output ≡ ltb 0 (length (in_hand h.packets))
    → frame (lines03 a p on check) ++ frame (lines47 a) ≡ frames_from a f h on check
unfolding frames_from
frames_bytes a p on check f h few counted gathering dropped busy =
    rw (bytes_03 a p on check, bytes_47 a, gathering, counted, busy, dropped, flag_at (ltb 0 (length (in_hand h.packets))) 128, flag_at (ltb 0 (length f.gathered)) 128, flag_at on 4, low 1, low 2, low 3, low 5, low 6, low 7, high 1 (omega arith), high 2 (omega arith), high 3 (omega arith), high 5 (omega arith), high 6 (omega arith), high 7 (omega arith))
  where
    -- "low byte, then bits 9 and 8"
    low : (c : ℕ) → bits_of (get_or a c 0) 7 0 ≡ get_or a c 0 % 256
    low c = omega arith

    high : (c : ℕ) → c < 8 → bits_of (get_or a c 0) 9 8 ≡ get_or a c 0 / 256
    high c h = omega (arith, few c h)

-- a sample set that is not refused has averages of ten bits
tens : (w : World) (k : ℕ) (xs : List ℕ) → Clear (rows_of w (samples k xs)) → (c : ℕ) → c < 8 → get_or (averages_of 16 xs) c 0 < 1024
unfolding rows_of
tens w k xs q c h =
    let inside : bounded_of xs ≡ true = and_left (bounded_of xs) (leb k 31) (not-false (clear_head (clear_rest (clear_rest q)))) in
    rw (averages_at 16 xs c h) (omega (arith, average_fits 16 xs c inside))

-- what an answered sample set tells, by what the pipe's calls put in
shown : {w : World} {k : ℕ} {xs : List ℕ} {s : Stepped} → Happens w (samples k xs) s → not (is_refused s.told.said) ≡ true
    → (f : Flow) (sent : List ℕ) → Flowing w.pod.pipe.input sent f → (h : Handing) (given : List ℕ) → Handled w.pod.pipe.output given h
    → s.told ≡ told (gave done) (frames_from (averages_of 16 xs) f h w.pod.initialised k)
unfolding frames_of
shown (by_rows c n r) e f sent x h given y = absurd (false≢true e)
shown {w} (by_samples k xs q) e f sent x h given y =
    let i = w.pod.pipe.input in
    let o = w.pod.pipe.output in
    let many = many_gathered i sent f x in
    ap (λ (l : List ℕ). told (gave done) l)
    (frames_bytes (averages_of 16 xs) w.pod.pipe w.pod.initialised k f h (tens w k xs q) x.flows.counted
    (gathering_is i (length f.gathered) (sym many) (omega (arith, x.whole.few))) y.hands.counted
    (busy_is o (length (in_hand h.packets)) (many_held o given h y)))

pub frames_are_history : FramesAreHistory
frames_are_history l cs k xs e =
    shown (happens (final (powered l) cs) (samples k xs)) e (fold flow_by no_flow (events (powered l) cs)) _ (flowing_is l cs)
    (fold handing_by no_handing (events (powered l) cs)) _ (handed_is l cs)
    ∙ ap (λ (b : Bool). told (gave done) (frames_from (averages_of 16 xs) (fold flow_by no_flow (events (powered l) cs)) (fold handing_by no_handing (events (powered l) cs)) b k)) (awake_is l cs)
