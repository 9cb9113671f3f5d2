-- Demand 2: which transfer a table word leaves open, and what a data word reads as.
-- Assumes nothing.
use mathlib.Core.Path.{◌≡◌, refl, ap}
use mathlib.Core.Bool.{false}
use mathlib.Core.List.{[]}
use Rattle.rows.specs.Rows.{gave}
use Rattle.rows.proofs.Bool.{never, not-true}
use Rattle.tables.specs.declared.Words.{Words}
use Rattle.tables.specs.declared.Transfer.{Transfer}
use Rattle.tables.specs.declared.Transfer.TheVariants.{Idle, Address, Load, Read}
use Rattle.tables.specs.Tables.{Three}
use Rattle.tables.specs.Port.{word_given, data_out_of}
use Rattle.rules.specs.Refusals.{reads}
use Rattle.rules.specs.Families.{data_out, word_of}
use Rattle.rules.specs.World.{World, word, Stepped, told, is_refused}
use Rattle.rules.specs.Transfers.{read_as}
use Rattle.rules.specs.Demands.{TransferOnly, ReadsShown}
use Rattle.rules.proofs.Happens.{Happens, by_rows, by_word, happens}
use Rattle.rules.proofs.PortOnly.{word_leaves}
use Rattle.rules.proofs.ReadWhole.{word_shown_lem}

pub transfer_only : TransferOnly
transfer_only w c a = ap (λ (x : Words). x.transfer) (word_leaves w c a)

-- ---- a data word read

gives_as : (t : Transfer) (w : Words) (s : Three) → (word_given t w s).word ≡ read_as t s
unfolding word_given
gives_as Idle w s = refl
gives_as Address w s = refl
gives_as (Load h k) w s = refl
gives_as (Read h k at) w s = word_shown_lem h at s k

read_told_lem : {w : World} {s : Stepped} → Happens w (word data_out) s → is_refused s.told.said ≡ false
    → s.told ≡ told (gave (reads (read_as w.pod.words.transfer w.lent.tables))) []
unfolding word_of data_out_of
read_told_lem (by_rows c n f) a = never refl a
read_told_lem {w} (by_word c k) a = rw (gives_as w.pod.words.transfer w.pod.words w.lent.tables) refl

pub reads_shown : ReadsShown
reads_shown w a = read_told_lem (happens w (word data_out)) (not-true a)
