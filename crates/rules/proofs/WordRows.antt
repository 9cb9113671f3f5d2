-- Each table word's rows, and what it says, by its traits.
-- Assumes nothing.
use mathlib.Core.Path.{◌≡◌, refl}
use mathlib.Core.Bool.{Bool, false, cond}
use mathlib.Core.List.{[], ◌∷◌}
use Rattle.rows.proofs.Bool.{never}
use Rattle.tables.specs.declared.Words.{Words}
use Rattle.tables.specs.Tables.{Three}
use Rattle.tables.specs.Port.{Desk}
use Rattle.rules.specs.Refusals.{done, tables_row}
use Rattle.rules.specs.Families.{WordCall, command, data_in, data_out, status, word_of, word_lent}
use Rattle.rules.specs.Traits.{traits}

pub record Rowed (c : WordCall) : Type 0 where
  pub rows : (t : Three) → word_lent c t ≡ cond (traits c).lent (tables_row t ∷ []) []
  pub said : (on : Bool) (w : Words) (d : Desk) → (traits c).gives ≡ false → (word_of c on w d).said ≡ done

pub rowed : (c : WordCall) → Rowed c
unfolding word_lent word_of
rowed (command x) = record { rows = λ t. refl; said = λ on w d e. refl }
rowed (data_in x) = record { rows = λ t. refl; said = λ on w d e. refl }
rowed data_out = record { rows = λ t. refl; said = λ on w d e. never refl e }
rowed status = record { rows = λ t. refl; said = λ on w d e. never refl e }
