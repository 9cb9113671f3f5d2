-- Demand 2: "A table load counts when its last word is in and every check passes, and then changes the addressed words and no other."
-- Assumes nothing.
use Prim.Native.Nat.{ℕ, ◌+◌, ◌≤◌}
use native.Mathlib.Nat.{zero-add}
use native.Mathlib.Omega.{arith}
use mathlib.Core.Path.{◌≡◌, refl, sym, ap, ◌∙◌}
use mathlib.Core.Bool.{or-true, or-false}
use mathlib.Core.List.{List, [], ◌∷◌, ◌++◌}
use lib.ListN.{length, set, take, drop, length-append}
use lib.Seq.{sets, sets-eq, length-sets, take_at, take_all}
use Rattle.rows.proofs.Bool.{split}
use Rattle.tables.specs.declared.Header.{Header}
use Rattle.tables.specs.declared.Transfer.TheVariants.{Idle}
use Rattle.tables.specs.Tables.{words_of}
use Rattle.tables.specs.Bounds.{sound_transfer}
use Rattle.tables.specs.Port.{Desk, Tabled, tabled, with_transfer, command_of, order_obeyed, tables_after, load_right, load_judged, word_taken, data_in_of}
use Rattle.tables.proofs.Lists.{sets_snoc}
use Rattle.tables.proofs.Limits.{sound_transfer_lem, LoadIn, load_in_lem}
use Rattle.tables.proofs.Loading.{load_last, judged_right, judged_wrong}
use Rattle.rules.specs.State.{desk_in, sound_pod}
use Rattle.rules.specs.Families.{command, data_in, word_of}
use Rattle.rules.specs.World.{World, Call, word, Stepped, next, final}
use Rattle.rules.specs.Transfers.{written_in, others_in, opened, loaded, Loads}
use Rattle.rules.specs.Demands.{LoadWhole}
use Rattle.rules.proofs.Inside.{pod_in}
use Rattle.rules.proofs.Sound.{sound_next}
use Rattle.tables.proofs.Stale.{right_same, stored_same}
use Rattle.rules.proofs.Between.{final_then, word_fit}
use Rattle.rules.proofs.Gathering.{laid, Open, along, fit_along, passes}

-- ---- its last word

-- N words stored from the front are the first N
first-words : (ys l : List ℕ) → length ys ≤ length l → take (length ys) (sets l 0 ys) ≡ take (length ys) ys
first-words ys l i =
    ap (take (length ys)) (sets-eq ys l 0 (omega arith)) ∙ take_at ys (drop (0 + length ys) l) (length ys) refl ∙ sym (take_all (length ys) ys (omega arith))

-- a load of these words is judged by them alone
judged-loaded : (h : Header) (ys : List ℕ) (z : World) → 4 ≤ h.n → length ys ≡ h.n → h.n ≤ length z.lent.load
    → laid (load_judged h (sets z.lent.load 0 ys) (with_transfer Idle z.pod.words) z.lent.tables) z ≡ loaded h ys z.lent.tables z
judged-loaded h ys z least whole room =
    let l = sets z.lent.load 0 ys in
    let w = with_transfer Idle z.pod.words in
    let t = z.lent.tables in
    let e = z.pod.words.error in
    let first : take h.n l ≡ take h.n ys = rw whole at (first-words ys z.lent.load (omega arith)) in
    let right = right_same h l ys least first in
    split (load_right h ys)
    (λ r. ap (λ (y : Tabled). laid y z) (judged_right h l w t (right ∙ r)) ∙ rw (r, or-false e, stored_same h l ys least first (words_of h.table t)))
    (λ r. ap (λ (y : Tabled). laid y z) (judged_wrong h l w t (right ∙ r)) ∙ rw (r, or-true e))

-- an open load is of 4 to 64 words
pub open_bounds : (h : Header) (z : World) → Open h z → LoadIn h 0
open_bounds h z o =
    load_in_lem h 0 (ap sound_transfer (sym o.transfer) ∙ sound_transfer_lem z.pod.words (pod_in z.pod o.fit.sound).words)

-- with its last word it is closed and judged
last_word : (h : Header) (k : ℕ) (xs : List ℕ) (y : ℕ) (z : World) → Open h z → k ≡ length xs → length xs + 1 ≡ h.n
    → next (along h k (sets z.lent.load 0 xs) z) (word (data_in y)) ≡ loaded h (xs ++ (y ∷ [])) z.lent.tables z
unfolding word_of data_in_of word_taken
last_word h k xs y z o count last =
    let l = z.lent.load in
    let v = along h k (sets l 0 xs) z in
    let b = (open_bounds h z o).allowed in
    let long : length (xs ++ (y ∷ [])) ≡ h.n = length-append xs (y ∷ []) ∙ last in
    let stored : set (sets l 0 xs) k y ≡ sets l 0 (xs ++ (y ∷ [])) =
    ap (λ (i : ℕ). set (sets l 0 xs) i y) (count ∙ sym (zero-add (length xs))) ∙ sym (sets_snoc l 0 xs y) in
    ap (λ (s : Stepped). s.world) (word_fit v (fit_along h k (sets l 0 xs) z o (length-sets l 0 xs ∙ o.fit.load) (omega arith)) (data_in y))
    ∙ ap (λ (s : Tabled). laid s z) (load_last h k y (tabled v.pod.words (desk_in v.lent)) (omega arith))
    ∙ ap (λ (m : List ℕ). laid (load_judged h m (with_transfer Idle z.pod.words) z.lent.tables) z) stored
    ∙ judged-loaded h (xs ++ (y ∷ [])) z b.least long (omega (arith, b.most, o.fit.load))

-- ---- from its command word on

module _ (w : World) (x : ℕ) (h : Header) (cs : List Call) (r : Loads w x h cs) where
  is_opened : next w (word (command x)) ≡ opened h w
  unfolding word_of command_of order_obeyed tables_after
  is_opened = ap (λ (s : Stepped). s.world) (word_fit w r.fit (command x)) ∙ rw (r.awake, r.asked)

  is_open_lem : Open h (opened h w)
  is_open_lem =
      record {
        fit = record {
          tables = r.fit.tables;
          sound = ap (λ (v : World). sound_pod v.pod) (sym is_opened) ∙ sound_next w (word (command x)) r.fit.sound;
          load = r.fit.load;
        };
        transfer = refl;
      }

pub load_whole : LoadWhole
unfolding final
load_whole w x h cs y r =
    let o = opened h w in
    let xs = written_in cs in
    let z = final o (others_in cs) in
    let part = passes h cs 0 w.lent.load o (is_open_lem w x h cs r) r.fit.load r.still (omega (arith, r.last)) in
    let load = ap (λ (d : Desk). d.load) part.desk in
    ap (λ (v : World). final v (cs ++ (word (data_in y) ∷ []))) (is_opened w x h cs r)
    ∙ final_then o cs (word (data_in y) ∷ [])
    ∙ ap (λ (v : World). next v (word (data_in y))) part.is
    ∙ ap (λ (l : List ℕ). next (along h (0 + length xs) (sets l 0 xs) z) (word (data_in y))) (sym load)
    ∙ last_word h (0 + length xs) xs y z part.stays (zero-add (length xs)) r.last
    ∙ ap (λ (d : Desk). loaded h (xs ++ (y ∷ [])) d.tables z) part.desk
