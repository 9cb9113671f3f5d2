-- Two loads of which the same words have come, and what leaves them so.
-- Assumes nothing.
use Prim.Native.Nat.{ℕ, ◌+◌, ◌-◌}
use mathlib.Core.Path.{◌≡◌, refl}
use mathlib.Core.List.{List}
use lib.Dec.{ltb}
use lib.ListN.{length, take}
use Rattle.std.specs.Prelude.{Option, Some, None}
use Rattle.rows.specs.Rows.{Out, out}
use Rattle.rows.proofs.Bool.{by-test}
use Rattle.tables.specs.declared.Words.{Words}
use Rattle.orders.specs.declared.Order.{Order}
use Rattle.orders.specs.declared.Order.TheVariants.{Stop, Restart, Next, Writing, Reading}
use Rattle.tables.specs.declared.Transfer.{Transfer}
use Rattle.tables.specs.declared.Transfer.TheVariants.{Idle, Address, Load, Read}
use Rattle.tables.specs.Tables.{Three}
use Rattle.tables.specs.Port.{Desk, desk, Tabled, fits, close_of, wrong_way, read_opened_at, read_opened, restarted, order_obeyed, read_next, word_given}
use Rattle.tables.proofs.Stale.{gathered as came_of, Unseen}
use Rattle.rules.specs.Refusals.{Giving, done}

-- the same k words have come; those behind them may differ
pub record Gathered (k : ℕ) (d e : List ℕ) : Type 0 where
  pub long : length d ≡ length e
  pub came : take k d ≡ take k e

-- of two lists of one length, when none has come
pub none_came : {d e : List ℕ} (k : ℕ) → k ≡ 0 → length d ≡ length e → Gathered k d e
none_came k z h = rw z (record { long = h; came = refl })

-- ---- what a table word leaves

-- the same is said, with the same port and tables, and the same words of an open load have come
pub data SameDesk : Out Giving Words Desk → Out Giving Words Desk → Type 0 where
  same-desk : (g : Giving) (w : Words) (t : Three) (d e : List ℕ) → Gathered (came_of w.transfer) d e
      → SameDesk (out g w (desk t d)) (out g w (desk t e))

-- with a command word none has come
NoneCame : Words → Type 0
NoneCame w = came_of w.transfer ≡ 0

pub obeyed-none : (o : Option Order) (w : Words) → came_of (order_obeyed o (close_of w)).transfer ≡ 0
unfolding order_obeyed close_of restarted read_opened read_opened_at NoneCame
obeyed-none None w = refl
obeyed-none (Some Stop) w = refl
obeyed-none (Some Restart) w = refl
obeyed-none (Some Next) w = refl
obeyed-none (Some (Writing t n)) w = refl
obeyed-none (Some (Reading t n)) w = by-test NoneCame (fits t _ (n - 3)) (λ e. refl) (λ e. refl)

-- nor after a data word read
pub given-none : (u : Transfer) (w : Words) (t : Three) → came_of (word_given u w t).words.transfer ≡ 0
unfolding word_given wrong_way read_next
given-none Idle w t = refl
given-none Address w t = refl
given-none (Load h k) w t = refl
given-none (Read h k at) w t = by-test (λ (u : Transfer). came_of u ≡ 0) (ltb (k + 1) h.n) (λ e. refl) (λ e. refl)

-- a data word written, by the same words of a load
pub unseen_same : (y d : Tabled) → Unseen y d
    → SameDesk (out done y.words (desk y.desk.tables y.desk.load)) (out done d.words (desk d.desk.tables d.desk.load))
unseen_same y d u =
    rw (u.words, u.tables) (same-desk done d.words d.desk.tables y.desk.load d.desk.load (record { long = u.long; came = u.first }))
