use Rattle.std.proofs.Common.{◌≡◌, ℕ, ◌+◌, List, length, drop, arith, ap, ◌∙◌}
use Rattle.std.proofs.lemmas.Grind.{common_steps}
use Rattle.std.specs.Prelude.{Option, unwrap_or}
use Rattle.lists.specs.Words.{is_mark, before}
use Rattle.lists.proofs.Parsing.{before-position}
use Rattle.lists.proofs.words.find.Goals as goal

pub returns-in-Some : goal.returns-in-Some
returns-in-Some c =
    let found = c.in-Some.ensures.lookup.0.2 in
    let rest : c.in-Some.rest.now ≡ drop c.args.from c.args.text.now = grind (arith, common_steps) in
    let stop = is_mark c.args.mark in
    ap (λ (k : ℕ). c.args.from + k)
    (c.unwrap_or.ensures ∙ ap (λ (o : Option ℕ). unwrap_or o (length c.in-Some.rest.now)) c.first.ensures ∙ before-position stop c.in-Some.rest.now ∙ ap (λ (s : List ℕ). length (before stop s)) rest)
