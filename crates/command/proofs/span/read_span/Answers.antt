use Prim.Native.Nat.{ℕ, ◌+◌, ◌-◌, ◌≤◌, ◌<◌, ◌%◌}
use mathlib.Core.Path.{◌≡◌, refl, sym, ap, ◌∙◌}
use mathlib.Core.List.{List}
use native.Mathlib.Nat.{zero-add}
use native.Mathlib.Omega.{arith}
use lib.ListN.{length, take, drop, length-drop}
use lib.Seq.{take_all, length-take-le}
use borrow.Author.Tests.{eq-eqb, ne_eqb, le-leb, lt-leb}
use Rattle.lists.specs.declared.words.Mark.TheVariants.{Hyphen}
use Rattle.lists.specs.Words.{is_mark, before, number_of}
use Rattle.lists.proofs.Parsing.{before-within}
use Rattle.std.specs.Prelude.{Result, Ok, Err, Some, None}
use Rattle.std.specs.Result.{result_ok}
use Rattle.lists.specs.declared.fault.Fault.{Fault}
use Rattle.command.specs.declared.span.Span.{Span}
use Rattle.command.specs.Words.{pair_of, span_of}
use Rattle.command.proofs.span.read_span.Goals as goal
use Rattle.command.proofs.span.read_span.Goals.{After-find-hyphen, Else-word-hyphen, then-hyphen-eq0-via-then-hyphen-eq0, then-hyphen-eq0-via-else-hyphen-eq0+then-word-hyphen}

-- Where the hyphen is.
module _ (c : After-find-hyphen) where
  abbrev word : List ℕ
  word = c.args.word.now

  found : length (before (is_mark Hyphen) word) ≡ c.find-hyphen.result
  found = sym (c.find-hyphen.ensures ∙ zero-add _)

  within : c.find-hyphen.result ≤ length word
  within = omega (arith, c.find-hyphen.ensures, before-within (is_mark Hyphen) word 0 (omega arith))

pub overflow_add-hyphen : goal.overflow_add-hyphen
overflow_add-hyphen c = omega (arith, within (goal.at.overflow_add-hyphen c).After-find-hyphen)

-- Both numbers are there, or one is not.
low-wrong : (a b : Result ℕ Fault) → result_ok a ≡ None → pair_of a b ≡ None
low-wrong (Ok n) b e = absurd (let z : ◌≡◌ {A = ℕ} 0 1 = cc in omega arith)
low-wrong (Err fault) b e = refl

high-wrong : (a b : Result ℕ Fault) → result_ok b ≡ None → pair_of a b ≡ None
high-wrong a (Ok n) e = absurd (let z : ◌≡◌ {A = ℕ} 0 1 = cc in omega arith)
high-wrong (Ok n) (Err fault) e = refl
high-wrong (Err earlier) (Err fault) e = refl

both : (a b : Result ℕ Fault) (low high : ℕ) → result_ok a ≡ Some low → result_ok b ≡ Some high → pair_of a b ≡ Some (record { low = low % 256; high = high % 256 })
both (Ok m) (Ok n) low high e f = let g : m ≡ low = cc in let h : n ≡ high = cc in rw (g, h) refl
both (Ok m) (Err fault) low high e f = absurd (let z : ◌≡◌ {A = ℕ} 0 1 = cc in omega arith)
both (Err fault) b low high e f = absurd (let z : ◌≡◌ {A = ℕ} 0 1 = cc in omega arith)

pub returns-then-hyphen-eq0 : goal.returns-then-hyphen-eq0
unfolding span_of
returns-then-hyphen-eq0 c =
    let hyphen = found (goal.at.returns-then-hyphen-eq0 c).After-find-hyphen in
    elim c.then-hyphen-eq0.branch [
      | then-hyphen-eq0-via-then-hyphen-eq0 w ↦ simp (eq-eqb _ _ (hyphen ∙ w.if-hyphen-eq0.true))
      | then-hyphen-eq0-via-else-hyphen-eq0+then-word-hyphen w ↦ simp (ne_eqb _ _ (λ e. w.if-hyphen-eq0.false (sym hyphen ∙ e)), le-leb (length c.args.word.now) (length (before (is_mark Hyphen) c.args.word.now) + 1) (omega (arith, hyphen, w.if-word-hyphen.true)))
    ]

-- A hyphen that stands between two words.
module _ (c : Else-word-hyphen) where
  parted : span_of c.args.word.now ≡ pair_of (number_of 1 255 255 (take c.find-hyphen.result c.args.word.now)) (number_of 2 255 255 (drop (c.find-hyphen.result + 1) c.args.word.now))
  unfolding span_of
  parted =
      let hyphen = found (goal.at.Else-word-hyphen c).After-find-hyphen in
      let text = c.args.word.now in
      let long : length (before (is_mark Hyphen) text) + 1 < length text = omega (arith, hyphen, c.if-word-hyphen.false) in
      let stop = length (before (is_mark Hyphen) text) in
      let cut : span_of text ≡ pair_of (number_of 1 255 255 (take stop text)) (number_of 2 255 255 (drop (stop + 1) text)) =
      simp (ne_eqb _ _ (λ e. c.if-hyphen-eq0.false (sym hyphen ∙ e)), lt-leb _ _ long)
      in
      cut ∙ ap (λ (k : ℕ). pair_of (number_of 1 255 255 (take k text)) (number_of 2 255 255 (drop (k + 1) text))) hyphen

  rest : take (length c.args.word.now - (c.find-hyphen.result + 1)) (drop (c.find-hyphen.result + 1) c.args.word.now) ≡ drop (c.find-hyphen.result + 1) c.args.word.now
  rest = take_all (length c.args.word.now - (c.find-hyphen.result + 1)) (drop (c.find-hyphen.result + 1) c.args.word.now) (omega (arith, length-drop (c.find-hyphen.result + 1) c.args.word.now))

pub slice_bounds-read_number-end : goal.slice_bounds-read_number-end
slice_bounds-read_number-end c = sym (length-take-le _ _ (within (goal.at.slice_bounds-read_number-end c).After-find-hyphen))

pub returns-in_err-low : goal.returns-in_err-low
returns-in_err-low c =
    c.from_residual.ensures
    ∙ sym (parted (goal.at.returns-in_err-low c).Else-word-hyphen ∙ low-wrong _ _ (ap result_ok (sym c.read_number.ensures) ∙ sym c.ok.ensures.value ∙ c.in_err-low.was))

pub returns-in_err-high : goal.returns-in_err-high
returns-in_err-high c =
    c.from_residual-in_err-high.ensures
    ∙ sym (parted (goal.at.returns-in_err-high c).Else-word-hyphen ∙ high-wrong _ _ (ap result_ok (sym (c.read_number-2.ensures ∙ ap (number_of 2 255 255) (rest (goal.at.returns-in_err-high c).Else-word-hyphen))) ∙ sym c.ok-2.ensures.value ∙ c.in_err-high.was))

pub returns : goal.returns
returns c =
    sym (parted (goal.at.returns c).Else-word-hyphen
    ∙ both _ _ _ _ (ap result_ok (sym c.read_number.ensures) ∙ sym c.ok.ensures.value ∙ c.in_ok-low.was)
    (ap result_ok (sym (c.read_number-2.ensures ∙ ap (number_of 2 255 255) (rest (goal.at.returns c).Else-word-hyphen))) ∙ sym c.ok-2.ensures.value ∙ c.in_ok-high.was))
