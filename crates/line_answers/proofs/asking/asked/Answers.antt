-- By the program: what was read lies in the memory.
use Rattle.std.proofs.Common.{rules, ◌≡◌, ◌≤◌, ℕ, List, Option, length, ◌*◌, ap, sym, ◌∙◌}
use mathlib.Core.Logic.{◌⊎◌, inl, inr}
use lib.Seq.{sets}
use Rattle.lines.specs.declared.Line.{Line}
use Rattle.lines.specs.Asked.{packet_in, line_of, say_line}
use Rattle.line_calls.specs.Calls.{heard_line}
use Rattle.line_answers.specs.declared.Program.{Program}
use Rattle.line_answers.specs.declared.Program.TheVariants.{Console, Lab}
use Rattle.line_answers.specs.Lines.{asking_of}
use Rattle.line_answers.proofs.Heard.{packet_heard_lem, line-heard}
use Rattle.line_answers.proofs.asking.asked.Goals as goal

packet_heard : {l : Option Line} {bs' : List ℕ} (t bs ws : List ℕ) → length t ≤ 3 * length bs → l ≡ say_line (packet_in t).asked
    → bs' ≡ sets bs 0 (packet_in t).bytes → heard_line l bs' ws ≡ (packet_in t).asked
packet_heard t bs ws b e f = rw (e, f) (packet_heard_lem t bs b ws)

any_heard : {l : Option Line} {bs' ws' : List ℕ} (t bs ws : List ℕ) → length t ≤ 3 * length bs → length t ≤ 5 * length ws
    → l ≡ say_line (line_of t).asked → bs' ≡ sets bs 0 (line_of t).bytes → ws' ≡ sets ws 0 (line_of t).words
    → heard_line l bs' ws' ≡ (line_of t).asked
any_heard t bs ws b w e f g = rw (e, f, g) (line-heard t bs b ws w)

pub returns-in-Session : goal.returns-in-Session
unfolding asking_of
returns-in-Session c =
    let a = c.args in
    rw c.in-Session.is (packet_heard a.text.now a.bytes.now a.words.now (search rules) (search rules) (search rules))

reads : {p : Program} (t : List ℕ) → (p ≡ Console) ⊎ (p ≡ Lab) → asking_of p t ≡ line_of t
unfolding asking_of
reads t (inl e) = ap (λ q. asking_of q t) e
reads t (inr e) = ap (λ q. asking_of q t) e

pub returns-in-Console : goal.returns-in-Console
returns-in-Console c =
    let a = c.args in
    any_heard a.text.now a.bytes.now a.words.now (search rules) (search rules) (search rules) (search rules) (search rules)
    ∙ ap (λ k. k.asked) (sym (reads a.text.now c.in-Console.is))
