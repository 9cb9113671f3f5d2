-- Each table word's traits, which the statements go by: what it is lent, what it gives, and what it is to an open load or read.
-- Assumes nothing.
use Rattle.std.specs.Prelude.{ℕ, Bool, true, false, List, [], ◌∷◌}
use Rattle.rules.specs.Families.{WordCall, command, data_in, data_out, status}

pub record Traits : Type 0 where
  -- it is lent the tables
  pub lent : Bool
  -- it gives a word
  pub gives : Bool
  -- the data words that it writes, and how many it reads
  pub written : List ℕ
  pub reads : ℕ
  -- it closes an open load, or an open read, before its last word: "every command word", "a data word .. with no transfer that way"
  pub cutsload : Bool
  pub cutsread : Bool

abbrev pub traits : WordCall → Traits
traits (command x) = record { lent = true; gives = false; written = []; reads = 0; cutsload = true; cutsread = true }
traits (data_in x) = record { lent = true; gives = false; written = x ∷ []; reads = 0; cutsload = false; cutsread = true }
traits data_out = record { lent = true; gives = true; written = []; reads = 1; cutsload = true; cutsread = false }
traits status = record { lent = false; gives = true; written = []; reads = 0; cutsload = false; cutsread = false }
