-- Texts written one behind the other.
-- Assumes nothing.
use Rattle.std.proofs.Common.{◌≡◌, ℕ, ◌+◌, ◌≤◌, List, [], ◌++◌, length, take, refl, sym, ap, ◌∙◌, arith}
use Rattle.std.proofs.lemmas.List.Edits.{sets}
use lib.ListN.{length-append}
use Rattle.numbers.proofs.Stores.{sets_taken}
use Rattle.items.specs.declared.output.Output.{Output}
use Rattle.items.specs.Output.{Written}
use Rattle.items.proofs.Lists.{sets_join}

pub both : {m n : ℕ} {s t : List ℕ} {a b c : Output} → Written s m a b → Written t n b c → Written (s ++ t) (m + n) a c
both {s = s} {t = t} {a = a} {b = b} v w =
    record {
      characters =
          w.characters
          ∙ ap (λ (x : List ℕ). sets x b.at t) v.characters
          ∙ ap (λ (k : ℕ). sets (sets a.out.now a.at s) k t) v.place
          ∙ sets_join s t a.out.now a.at (a.at + length s) refl;
      place = omega (arith, v.place, w.place, length-append s t);
      short = omega (arith, v.short, w.short, length-append s t);
      room = w.room ∙ v.room;
      lent = w.lent ∙ v.lent;
    }

-- under another name, and with more allowed
pub renamed : {m : ℕ} {s : List ℕ} {a b : Output} (t : List ℕ) (n : ℕ) → s ≡ t → m ≤ n → Written s m a b → Written t n a b
renamed t n e h w = rw (← e) (record { characters = w.characters; place = w.place; short = omega (arith, w.short); room = w.room; lent = w.lent })

-- with more allowed
pub longer : {m : ℕ} {t : List ℕ} {a b : Output} (n : ℕ) → m ≤ n → Written t m a b → Written t n a b
longer n h w = record { characters = w.characters; place = w.place; short = omega (arith, w.short); room = w.room; lent = w.lent }

-- so many characters at the most
pub shortened : {m : ℕ} {t : List ℕ} {a b : Output} (n : ℕ) → length t ≤ n → Written t m a b → Written t n a b
shortened n h w = record { characters = w.characters; place = w.place; short = h; room = w.room; lent = w.lent }

-- a text that is partly written: what is left of it goes to the place that was reached
pub record Left (text rest : List ℕ) (most : ℕ) (before reached : Output) : Type 0 where
  pub place : reached.at + length rest ≡ before.at + length text
  pub short : length text ≤ most + length rest
  pub characters : sets reached.out.now reached.at rest ≡ sets before.out.now before.at text
  pub room : length reached.out.now ≡ length before.out.now
  pub lent : reached.out.ghost_name ≡ before.out.ghost_name

pub none_left : (text : List ℕ) (a : Output) → Left text text 0 a a
none_left text a = record { place = refl; short = omega arith; characters = refl; room = refl; lent = refl }

-- the next part of it
pub one_more : {m n : ℕ} {text r part : List ℕ} {a b c : Output} (rest : List ℕ) (k : ℕ) → r ≡ part ++ rest → m + n ≡ k
    → Left text r m a b → Written part n b c → Left text rest k a c
one_more {part = part} {b = b} {c = c} rest k e s l w =
    record {
      place = omega (arith, l.place, w.place, length-append part rest, ap length e);
      short = omega (arith, l.short, w.short, length-append part rest, ap length e);
      characters =
          ap (λ (x : List ℕ). sets x c.at rest) w.characters
          ∙ ap (λ (j : ℕ). sets (sets b.out.now b.at part) j rest) w.place
          ∙ sets_join part rest b.out.now b.at (b.at + length part) refl
          ∙ ap (sets b.out.now b.at) (sym e)
          ∙ l.characters;
      room = w.room ∙ l.room;
      lent = w.lent ∙ l.lent;
    }

pub whole : {m : ℕ} {text r : List ℕ} {a b : Output} (n : ℕ) → r ≡ [] → m ≤ n → Left text r m a b → Written text n a b
whole {b = b} n e h l =
    record {
      characters = ap (sets b.out.now b.at) (sym e) ∙ l.characters;
      place = omega (arith, l.place, ap length e);
      short = omega (arith, l.short, ap length e);
      room = l.room;
      lent = l.lent;
    }

-- what an output has gathered from its start on is the text
pub gathered : {m : ℕ} {t : List ℕ} {a b : Output} → a.at ≡ 0 → length t ≤ length a.out.now → Written t m a b → take b.at b.out.now ≡ t
gathered {t = t} {a = a} {b = b} z h w =
    ap (take b.at) (w.characters ∙ ap (λ (k : ℕ). sets a.out.now k t) z)
    ∙ sets_taken t a.out.now b.at (omega (arith, w.place, z)) h
