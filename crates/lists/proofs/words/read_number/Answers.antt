use Prim.Native.Nat.{ℕ, ◌+◌, ◌*◌, ◌-◌, ◌<◌, ◌≤◌, min}
use mathlib.Core.Path.{◌≡◌, refl, sym, ◌∙◌}
use mathlib.Core.Bool.{true}
use native.Mathlib.Omega.{arith}
use lib.ListN.{length, get_or, drop}
use borrow.Author.Rules.{rules}
use borrow.Author.Tests.{le-leb, lt-leb}
use Rattle.lists.specs.Decimals.{digit}
use Rattle.lists.specs.Words.{is_digit, number_of}
use Rattle.lists.proofs.Parsing.{number-next, number-stop, number-end, number-capped, digit-range}
use Rattle.lists.proofs.words.read_number.Goals as goal
use Rattle.lists.proofs.words.read_number.Goals.{Else-not-is_ascii_digit}

pub loop-byte-init : goal.loop-byte-init
loop-byte-init c = (search rules, refl)

pub returns-then-not-is_ascii_digit : goal.returns-then-not-is_ascii_digit
unfolding number_of
returns-then-not-is_ascii_digit c =
    let a = c.args in
    let h : c.loop-byte.byte-index < length a.word.now = omega arith in
    sym (number-stop a.place a.told a.limit c.loop-byte.value a.word.now c.loop-byte.byte-index h (sym c.is_ascii_digit.ensures.value ∙ c.if-not-is_ascii_digit.true)) ∙ c.loop-byte.invariant.1

-- Past a byte that is a digit.
module _ (c : Else-not-is_ascii_digit) where
  abbrev byte : ℕ
  byte = get_or c.args.word.now c.loop-byte.byte-index 0

  is : is_digit byte ≡ true
  is = sym c.is_ascii_digit.ensures.value ∙ c.if-not-is_ascii_digit.false

  range : (digit 0 ≤ byte) × (byte ≤ digit 9)
  range = digit-range byte is

pub overflow_sub-byte : goal.overflow_sub-byte
overflow_sub-byte c = omega (arith, range (goal.at.overflow_sub-byte c).Else-not-is_ascii_digit)

pub overflow_cast-byte : goal.overflow_cast-byte
overflow_cast-byte c = omega (arith, range (goal.at.overflow_cast-byte c).Else-not-is_ascii_digit)

pub overflow_add-value : goal.overflow_add-value
overflow_add-value c = omega (arith, range (goal.at.overflow_add-value c).Else-not-is_ascii_digit)

pub loop-byte-preserved : goal.loop-byte-preserved
loop-byte-preserved c =
    let a = c.args in
    let word = a.word.now in
    let i = c.loop-byte.byte-index in
    let h : i < length word = omega arith in
    let n = c.loop-byte.value * 10 + (get_or word i 0 - digit 0) in
    let same : min c.min-value.result (a.limit + 1) ≡ min n (a.limit + 1) = omega (arith, c.min-value.ensures) in
    (omega (arith, c.min-value.ensures), number-capped a.place a.told a.limit c.min-value.result n same (drop (i + 1) word) ∙ sym (number-next a.place a.told a.limit c.loop-byte.value word i h (is (goal.at.loop-byte-preserved c).Else-not-is_ascii_digit)) ∙ c.loop-byte.invariant.1)

pub returns-then-limit-value : goal.returns-then-limit-value
unfolding number_of
returns-then-limit-value c =
    let a = c.args in
    let h : length a.word.now ≤ c.loop-byte.byte-index = omega arith in
    sym (number-end a.place a.told a.limit c.loop-byte.value a.word.now c.loop-byte.byte-index h ∙ simp (lt-leb _ _ c.if-limit-value.true)) ∙ c.loop-byte.invariant.1

pub returns : goal.returns
unfolding number_of
returns c =
    let a = c.args in
    let h : length a.word.now ≤ c.loop-byte.byte-index = omega arith in
    sym (number-end a.place a.told a.limit c.loop-byte.value a.word.now c.loop-byte.byte-index h ∙ simp (le-leb _ _ c.if-limit-value.false)) ∙ c.loop-byte.invariant.1
