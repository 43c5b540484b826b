-- A refusal is known by its number, so a promise about the number is one about the refusal. Assumes nothing.
use Prim.Native.Nat.{ℕ}
use mathlib.Core.Path.{◌≡◌, refl, sym, ap, ◌∙◌}
use mathlib.Core.List.{List, [], ◌∷◌}
use lib.ListN.{get_or}
use Rattle.records.specs.Refusals.{number}
use Rattle.records.specs.declared.refusal.Refusal.{Refusal}
use Rattle.records.specs.declared.refusal.Refusal.TheVariants.{JobCount, JobId, IdOrder, Place, JobTimes, QuantumRange, ConfigurationSize, ConfigurationIds, RecordShape, LevelSharing, NotPlaced, OutputLength, PriorityRange, KernelPriority, GateLimits}

-- The refusals at their numbers; there is none at 0.
abbrev refusals : List Refusal
refusals =
    JobCount ∷ JobCount ∷ JobId ∷ IdOrder ∷ Place ∷ JobTimes ∷ QuantumRange ∷ ConfigurationSize ∷ ConfigurationIds ∷ RecordShape ∷ LevelSharing ∷ NotPlaced ∷ OutputLength ∷ PriorityRange ∷ KernelPriority ∷ GateLimits ∷ []

found : (refusal : Refusal) → get_or refusals (number refusal) JobCount ≡ refusal
found JobCount = refl
found JobId = refl
found IdOrder = refl
found Place = refl
found JobTimes = refl
found QuantumRange = refl
found ConfigurationSize = refl
found ConfigurationIds = refl
found RecordShape = refl
found LevelSharing = refl
found NotPlaced = refl
found OutputLength = refl
found PriorityRange = refl
found KernelPriority = refl
found GateLimits = refl

pub number-exact : (a b : Refusal) → number a ≡ number b → a ≡ b
number-exact a b e = sym (found a) ∙ ap (λ (n : ℕ). get_or refusals n JobCount) e ∙ found b
