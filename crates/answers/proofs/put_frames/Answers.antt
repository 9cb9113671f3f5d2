-- Two runs of eight bytes.
use Rattle.std.proofs.Common.{rules, arith, ◌≡◌, ◌∙◌, refl, ap, List, ℕ, ◌++◌, length, replicate, length-append}
use Rattle.std.proofs.lemmas.List.Edits.{sets}
use Rattle.rules.specs.Refusals.{answer_said}
use Rattle.items.proofs.Behind.{renamed}
use Rattle.answers.proofs.Texts.{both_eight, frames_said}
use Rattle.answers.proofs.put_frames.Goals as goal

pub returns : goal.returns
returns c =
    let f = c.args.frames in
    let x : length f.an03 ≡ 8 = search rules in
    let y : length f.an47 ≡ 8 = search rules in
    let e : c.copy-2.new.to ≡ f.an03 ++ f.an47 =
    c.copy-2.ensures ∙ ap (λ (l : List ℕ). sets l 8 f.an47) c.copy.ensures ∙ both_eight (replicate 16 0) f.an03 f.an47 refl x y in
    renamed _ _ (frames_said (answer_said c.args.answer) f c.copy-2.new.to e) (omega (arith, ap length e, x, y, length-append f.an03 f.an47)) c.put_line.ensures
