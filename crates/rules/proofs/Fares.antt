-- How each table word fares: within the bounds, asleep, beside two loads, with an open load and with an open read. The theorems go by
-- these laws and have no clause for a word.
-- Assumes nothing.
use Prim.Native.Nat.{ℕ, ◌+◌, ◌<◌}
use native.Mathlib.Nat.{add-zero}
use mathlib.Core.Path.{◌≡◌, refl, sym, ap, ◌∙◌}
use mathlib.Core.Bool.{Bool, true, false}
use mathlib.Core.List.{List, [], ◌∷◌}
use lib.ListN.{set}
use borrow.Author.Tests.{lt-ltb}
use Rattle.rows.specs.Rows.{Out, out}
use Rattle.tables.specs.declared.Header.{Header}
use Rattle.tables.specs.declared.Words.{Words}
use Rattle.tables.specs.declared.Transfer.{Transfer}
use Rattle.tables.specs.declared.Transfer.TheVariants.{Idle, Load, Read}
use Rattle.tables.specs.Tables.{Three}
use Rattle.orders.specs.Command.{order_heard}
use Rattle.tables.specs.Port.{Answered, Desk, desk, Tabled, tabled, with_transfer, close_of, wrong_way, command_of, word_taken, data_in_of, read_next, word_given, data_out_of, status_of}
use Rattle.tables.specs.Bounds.{sound_words}
use Rattle.tables.proofs.Kept.{command_sound, data_in_sound, data_out_sound}
use Rattle.tables.proofs.Closing.{off-command, idle_in, idle_out, wrong_idle}
use Rattle.tables.proofs.Limits.{sound_places_lem, sound_transfer_lem, both_sound}
use Rattle.tables.proofs.Stale.{gathered as came_of, data_in_unseen}
use Rattle.tables.proofs.Loading.{load_more}
use Rattle.tables.proofs.Obeying.{given_by}
use Rattle.rules.specs.Refusals.{Giving, done}
use Rattle.rules.specs.Families.{WordCall, command, data_in, data_out, status, word_written, word_read, word_of}
use Rattle.rules.specs.Traits.{traits}
use Rattle.rules.proofs.WordsAlike.{Gathered, none_came, SameDesk, same-desk, obeyed-none, given-none, unseen_same}

-- ---- asleep

-- with nothing open it looks at no word that it is lent, passes them on, and opens nothing
pub record Dormant (c : WordCall) (w : Words) : Type 0 where
  pub said : Giving
  pub words : Words
  pub idle : words.transfer ≡ Idle
  pub is : (d : Desk) → word_of c false w d ≡ out said words d

-- ---- an open load

-- it closes it, and what it says and leaves goes by no word of it
pub record Cuts (c : WordCall) : Type 0 where
  pub blind : (on : Bool) (w : Words) (h : Header) (k : ℕ) (t : Three) (l m : List ℕ)
      → let o = word_of c on (with_transfer (Load h 0) w) (desk t m) in word_of c on (with_transfer (Load h k) w) (desk t l) ≡ out o.said o.pod (desk o.lent.tables l)
  pub none : (on : Bool) (w : Words) (d : Desk) → came_of (word_of c on w d).pod.transfer ≡ 0
  pub load : (on : Bool) (w : Words) (d : Desk) → (word_of c on w d).lent.load ≡ d.load

-- it brings its next word, not the last, and no more
pub record Brings (c : WordCall) (x : ℕ) : Type 0 where
  pub pod : (on : Bool) (w : Words) (d : Desk) (h : Header) (k : ℕ) → k + 1 < h.n → (word_of c on (with_transfer (Load h k) w) d).pod ≡ with_transfer (Load h (k + 1)) w
  pub lent : (on : Bool) (w : Words) (d : Desk) (h : Header) (k : ℕ) → k + 1 < h.n
      → (word_of c on (with_transfer (Load h k) w) d).lent ≡ desk d.tables (set d.load k x)

-- it leaves any transfer and all that is lent, and looks at neither
pub record Leaves (c : WordCall) : Type 0 where
  pub pod : (on : Bool) (u : Transfer) (w : Words) (d e : Desk) → (word_of c on (with_transfer u w) d).pod ≡ with_transfer u (word_of c on w e).pod
  pub lent : (on : Bool) (w : Words) (d : Desk) → (word_of c on w d).lent ≡ d

pub data WithLoad (c : WordCall) : Type 0 where
  cutting : (traits c).cutsload ≡ true → Cuts c → WithLoad c
  bringing : (x : ℕ) → (traits c).cutsload ≡ false → (traits c).written ≡ x ∷ [] → Brings c x → WithLoad c
  leaving : (traits c).cutsload ≡ false → (traits c).written ≡ [] → Leaves c → WithLoad c

-- ---- an open read

-- it goes so many words on, and no more
pub record Goes (c : WordCall) (h : Header) (k at : ℕ) (w : Words) (o : Out Giving Words Desk) (d : Desk) : Type 0 where
  pub transfer : o.pod.transfer ≡ Read h (k + (traits c).reads) at
  pub places : o.pod.places ≡ w.places
  pub given : o.pod.given ≡ w.given
  pub lent : o.lent ≡ d

pub data WithRead (c : WordCall) : Type 0 where
  ending : (traits c).cutsread ≡ true → WithRead c
  going : ((on : Bool) (w : Words) (d : Desk) (h : Header) (k at : ℕ) → w.transfer ≡ Read h k at → k + (traits c).reads < h.n
      → Goes c h k at w (word_of c on w d) d) → WithRead c

-- ---- all of it

pub record Fares (c : WordCall) : Type 0 where
  pub sound : (on : Bool) (w : Words) (d : Desk) → sound_words w ≡ true → sound_words (word_of c on w d).pod ≡ true
  pub asleep : (w : Words) → w.transfer ≡ Idle → Dormant c w
  -- of two loads of which the same words have come
  pub alike : (on : Bool) (w : Words) (t : Three) (l m : List ℕ) → sound_words w ≡ true → Gathered (came_of w.transfer) l m
      → SameDesk (word_of c on w (desk t l)) (word_of c on w (desk t m))
  pub load : WithLoad c
  pub read : WithRead c

command_fares : (x : ℕ) → Fares (command x)
unfolding word_of command_of close_of
command_fares x =
    record {
      sound = λ on w d h. command_sound on x (tabled w d) h;
      asleep = λ w e. record { said = _; words = _; idle = wrong_idle w; is = λ d. ap word_written (off-command x (tabled w d)) };
      alike = λ on w t l m h g. same-desk done _ _ l m (none_came _ (obeyed-none (order_heard on x) w) g.long);
      load = cutting refl (record { blind = λ on w h k t l m. refl; none = λ on w d. obeyed-none (order_heard on x) w; load = λ on w d. refl });
      read = ending refl;
    }

-- a word of a load, not its last
next_word : (x : ℕ) (w : Words) (d : Desk) (h : Header) (k : ℕ) → k + 1 < h.n
    → data_in_of x (tabled (with_transfer (Load h k) w) d) ≡ tabled (with_transfer (Load h (k + 1)) w) (desk d.tables (set d.load k x))
unfolding data_in_of word_taken
next_word x w d h k i = load_more h k x (tabled (with_transfer (Load h k) w) d) i

data_in_fares : (x : ℕ) → Fares (data_in x)
unfolding word_of
data_in_fares x =
    record {
      sound = λ on w d h. data_in_sound x (tabled w d) h;
      asleep = λ w e. record { said = _; words = _; idle = wrong_idle w; is = λ d. ap word_written (idle_in x (tabled w d) e) };
      alike = λ on w t l m h g. unseen_same _ _ (data_in_unseen x w t l m g.long h g.came);
      load = bringing x refl refl
          (record { pod = λ on w d h k i. ap (λ (y : Tabled). y.words) (next_word x w d h k i); lent = λ on w d h k i. ap (λ (y : Tabled). y.desk) (next_word x w d h k i) });
      read = ending refl;
    }

-- a word of a read, not its last
word_on : (on : Bool) (w : Words) (d : Desk) (h : Header) (k at : ℕ) → w.transfer ≡ Read h k at → k + 1 < h.n → Goes data_out h k at w (word_of data_out on w d) d
unfolding word_of word_given read_next
word_on on w d h k at e i =
    let so = ap (λ (a : Answered). a.words) (given_by (Read h k at) w d.tables e) in
    record {
      transfer = ap (λ (v : Words). v.transfer) so ∙ rw (lt-ltb (k + 1) h.n i);
      places = ap (λ (v : Words). v.places) so;
      given = ap (λ (v : Words). v.given) so;
      lent = refl;
    }

data_out_fares : Fares data_out
unfolding word_of data_out_of word_given wrong_way
data_out_fares =
    record {
      sound = λ on w d h. data_out_sound w d.tables h;
      asleep = λ w e. record { said = _; words = _; idle = refl; is = λ d. ap (λ (a : Answered). word_read a d) (idle_out w d.tables e) };
      alike = λ on w t l m h g. same-desk _ _ _ l m (none_came _ (given-none w.transfer w t) g.long);
      load = cutting refl (record { blind = λ on w h k t l m. refl; none = λ on w d. given-none w.transfer w d.tables; load = λ on w d. refl });
      read = going word_on;
    }

status_fares : Fares status
unfolding word_of status_of
status_fares =
    record {
      sound = λ on w d h. both_sound _ (sound_places_lem w h) (sound_transfer_lem w h);
      asleep = λ w e. record { said = _; words = _; idle = e; is = λ d. refl };
      alike = λ on w t l m h g. same-desk _ _ _ l m g;
      load = leaving refl refl (record { pod = λ on u w d e. refl; lent = λ on w d. refl });
      read = going (λ on w d h k at e i. record { transfer = e ∙ ap (λ (j : ℕ). Read h j at) (sym (add-zero k)); places = refl; given = refl; lent = refl });
    }

pub fares : (c : WordCall) → Fares c
fares (command x) = command_fares x
fares (data_in x) = data_in_fares x
fares data_out = data_out_fares
fares status = status_fares
