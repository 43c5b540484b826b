-- Each sentence and what is said of each fault is its line of the text of all. Assumes nothing.
use Prim.Native.Nat.{ℕ, ◌≤◌}
use mathlib.Core.Path.{◌≡◌, refl}
use mathlib.Core.List.{List, [], ◌∷◌, ◌++◌}
use lib.ListN.{length}
use borrow.Author.Tests.{leb-true}
use Rattle.records.specs.Records.{flat}
use Rattle.lists.specs.Decimals.{line_feed}
use Rattle.lists.specs.declared.fault.Fault.{Fault}
use Rattle.lists.specs.declared.fault.Fault.TheVariants.{NotANumber, TooLarge, NotAPolicy, NotAPolicyName, LoneReturn, JobWords, SettingWords, KernelWords, RangeWords, TooMany, SecondRange}
use Rattle.reasons.specs.declared.reason.Sentence.{Sentence}
use Rattle.reasons.specs.declared.reason.Sentence.TheVariants.{NoJobs, JobBytes, ManyJobs, ZeroId, IdNotAbove, ZeroCost, CostOverDeadline, CostOverPeriod, LongPeriod, LongDeadline, ZeroQuantum, EmptyRange, LongQuantum, SettingBytes, SettingCount, OtherId, NumbersOfNone, NoPolicy, LevelOutside, FifoQuantum, QuantumOutside, FifoShares, Alone, NotPlaced, EmptyPriorities, FewPriorities, KernelBytes, PriorityOutside, KernelPolicy, FifoSharesPriority, AlonePriority, GateJobs, GateQuantum, Unknown}
use Rattle.writing.specs.Templates.{line_of}
use Rattle.messages.specs.Faults.{fault_template, fault_line}
use Rattle.messages.specs.Refusals.{template, sentence_line}

-- A line for each.
unfoldable pub lines_of : {A : Type 0} → (A → List ℕ) → List A → List ℕ
lines_of template all = flat (λ x. template x ++ (line_feed ∷ [])) all

-- ---- faults

unfoldable pub faults : List Fault
faults = NotANumber 0 ∷ TooLarge 0 0 ∷ NotAPolicy ∷ NotAPolicyName ∷ LoneReturn ∷ JobWords ∷ SettingWords ∷ KernelWords ∷ RangeWords ∷ TooMany ∷ SecondRange ∷ []

-- The template of a fault is its line, and has at most 60 bytes.
pub fault-told : (fault : Fault) → (line_of (lines_of fault_template faults) (fault_line fault) ≡ fault_template fault) × (length (fault_template fault) ≤ 60)
unfolding lines_of faults flat line_of
fault-told (NotANumber place) = (refl, leb-true _ _ refl)
fault-told (TooLarge place limit) = (refl, leb-true _ _ refl)
fault-told NotAPolicy = (refl, leb-true _ _ refl)
fault-told NotAPolicyName = (refl, leb-true _ _ refl)
fault-told LoneReturn = (refl, leb-true _ _ refl)
fault-told JobWords = (refl, leb-true _ _ refl)
fault-told SettingWords = (refl, leb-true _ _ refl)
fault-told KernelWords = (refl, leb-true _ _ refl)
fault-told RangeWords = (refl, leb-true _ _ refl)
fault-told TooMany = (refl, leb-true _ _ refl)
fault-told SecondRange = (refl, leb-true _ _ refl)

-- ---- refusals

unfoldable pub sentences : List Sentence
sentences = NoJobs ∷ JobBytes ∷ ManyJobs ∷ ZeroId ∷ IdNotAbove ∷ ZeroCost ∷ CostOverDeadline ∷ CostOverPeriod ∷ LongPeriod ∷ LongDeadline ∷ ZeroQuantum ∷ EmptyRange ∷ LongQuantum ∷ SettingBytes ∷ SettingCount ∷ OtherId ∷ NumbersOfNone ∷ NoPolicy ∷ LevelOutside ∷ FifoQuantum ∷ QuantumOutside ∷ FifoShares ∷ Alone ∷ NotPlaced ∷ EmptyPriorities ∷ FewPriorities ∷ KernelBytes ∷ PriorityOutside ∷ KernelPolicy ∷ FifoSharesPriority ∷ AlonePriority ∷ Unknown ∷ GateJobs ∷ GateQuantum ∷ []

-- The template of a sentence is its line, and has at most 60 bytes.
pub sentence-told : (sentence : Sentence) → (line_of (lines_of template sentences) (sentence_line sentence) ≡ template sentence) × (length (template sentence) ≤ 60)
unfolding lines_of sentences flat line_of
sentence-told NoJobs = (refl, leb-true _ _ refl)
sentence-told JobBytes = (refl, leb-true _ _ refl)
sentence-told ManyJobs = (refl, leb-true _ _ refl)
sentence-told ZeroId = (refl, leb-true _ _ refl)
sentence-told IdNotAbove = (refl, leb-true _ _ refl)
sentence-told ZeroCost = (refl, leb-true _ _ refl)
sentence-told CostOverDeadline = (refl, leb-true _ _ refl)
sentence-told CostOverPeriod = (refl, leb-true _ _ refl)
sentence-told LongPeriod = (refl, leb-true _ _ refl)
sentence-told LongDeadline = (refl, leb-true _ _ refl)
sentence-told ZeroQuantum = (refl, leb-true _ _ refl)
sentence-told EmptyRange = (refl, leb-true _ _ refl)
sentence-told LongQuantum = (refl, leb-true _ _ refl)
sentence-told SettingBytes = (refl, leb-true _ _ refl)
sentence-told SettingCount = (refl, leb-true _ _ refl)
sentence-told OtherId = (refl, leb-true _ _ refl)
sentence-told NumbersOfNone = (refl, leb-true _ _ refl)
sentence-told NoPolicy = (refl, leb-true _ _ refl)
sentence-told LevelOutside = (refl, leb-true _ _ refl)
sentence-told FifoQuantum = (refl, leb-true _ _ refl)
sentence-told QuantumOutside = (refl, leb-true _ _ refl)
sentence-told FifoShares = (refl, leb-true _ _ refl)
sentence-told Alone = (refl, leb-true _ _ refl)
sentence-told NotPlaced = (refl, leb-true _ _ refl)
sentence-told EmptyPriorities = (refl, leb-true _ _ refl)
sentence-told FewPriorities = (refl, leb-true _ _ refl)
sentence-told KernelBytes = (refl, leb-true _ _ refl)
sentence-told PriorityOutside = (refl, leb-true _ _ refl)
sentence-told KernelPolicy = (refl, leb-true _ _ refl)
sentence-told FifoSharesPriority = (refl, leb-true _ _ refl)
sentence-told AlonePriority = (refl, leb-true _ _ refl)
sentence-told GateJobs = (refl, leb-true _ _ refl)
sentence-told GateQuantum = (refl, leb-true _ _ refl)
sentence-told Unknown = (refl, leb-true _ _ refl)
