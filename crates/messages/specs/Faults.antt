-- What is said of a faulty line of a text: `line N: ` and what is wrong. Assumes nothing.
use Rattle.std.specs.Prelude.{ℕ, List, [], ◌∷◌, ◌++◌}
use Rattle.lists.specs.Decimals.{line_feed}
use Rattle.lists.specs.declared.fault.Fault.{Fault}
use Rattle.lists.specs.declared.fault.Fault.TheVariants.{NotANumber, TooLarge, NotAPolicy, NotAPolicyName, LoneReturn, JobWords, SettingWords, KernelWords, RangeWords, TooMany, SecondRange}
use Rattle.writing.specs.Templates.{filled}

-- In the order of the cases:
-- `word % is not a number`
-- `word % is above %`
-- `the policy is none of none, fifo, rr, 0, 1 and 2`
-- `word 2, the policy, is neither fifo nor rr`
-- `a carriage return within the line; a line feed ends a line`
-- `not four numbers, or five: id cost period deadline delay`
-- `not four words, or five: id level policy quantum bound`
-- `not four words: id policy priority quantum`
-- `not two numbers after the word quanta`
-- `more than 8 jobs`
-- `a second line with quanta`
abbrev pub fault_template : Fault → List ℕ
fault_template (NotANumber place) = 119 ∷ 111 ∷ 114 ∷ 100 ∷ 32 ∷ 37 ∷ 32 ∷ 105 ∷ 115 ∷ 32 ∷ 110 ∷ 111 ∷ 116 ∷ 32 ∷ 97 ∷ 32 ∷ 110 ∷ 117 ∷ 109 ∷ 98 ∷ 101 ∷ 114 ∷ []
fault_template (TooLarge place limit) = 119 ∷ 111 ∷ 114 ∷ 100 ∷ 32 ∷ 37 ∷ 32 ∷ 105 ∷ 115 ∷ 32 ∷ 97 ∷ 98 ∷ 111 ∷ 118 ∷ 101 ∷ 32 ∷ 37 ∷ []
fault_template NotAPolicy = 116 ∷ 104 ∷ 101 ∷ 32 ∷ 112 ∷ 111 ∷ 108 ∷ 105 ∷ 99 ∷ 121 ∷ 32 ∷ 105 ∷ 115 ∷ 32 ∷ 110 ∷ 111 ∷ 110 ∷ 101 ∷ 32 ∷ 111 ∷ 102 ∷ 32 ∷ 110 ∷ 111 ∷ 110 ∷ 101 ∷ 44 ∷ 32 ∷ 102 ∷ 105 ∷ 102 ∷ 111 ∷ 44 ∷ 32 ∷ 114 ∷ 114 ∷ 44 ∷ 32 ∷ 48 ∷ 44 ∷ 32 ∷ 49 ∷ 32 ∷ 97 ∷ 110 ∷ 100 ∷ 32 ∷ 50 ∷ []
fault_template NotAPolicyName = 119 ∷ 111 ∷ 114 ∷ 100 ∷ 32 ∷ 50 ∷ 44 ∷ 32 ∷ 116 ∷ 104 ∷ 101 ∷ 32 ∷ 112 ∷ 111 ∷ 108 ∷ 105 ∷ 99 ∷ 121 ∷ 44 ∷ 32 ∷ 105 ∷ 115 ∷ 32 ∷ 110 ∷ 101 ∷ 105 ∷ 116 ∷ 104 ∷ 101 ∷ 114 ∷ 32 ∷ 102 ∷ 105 ∷ 102 ∷ 111 ∷ 32 ∷ 110 ∷ 111 ∷ 114 ∷ 32 ∷ 114 ∷ 114 ∷ []
fault_template LoneReturn = 97 ∷ 32 ∷ 99 ∷ 97 ∷ 114 ∷ 114 ∷ 105 ∷ 97 ∷ 103 ∷ 101 ∷ 32 ∷ 114 ∷ 101 ∷ 116 ∷ 117 ∷ 114 ∷ 110 ∷ 32 ∷ 119 ∷ 105 ∷ 116 ∷ 104 ∷ 105 ∷ 110 ∷ 32 ∷ 116 ∷ 104 ∷ 101 ∷ 32 ∷ 108 ∷ 105 ∷ 110 ∷ 101 ∷ 59 ∷ 32 ∷ 97 ∷ 32 ∷ 108 ∷ 105 ∷ 110 ∷ 101 ∷ 32 ∷ 102 ∷ 101 ∷ 101 ∷ 100 ∷ 32 ∷ 101 ∷ 110 ∷ 100 ∷ 115 ∷ 32 ∷ 97 ∷ 32 ∷ 108 ∷ 105 ∷ 110 ∷ 101 ∷ []
fault_template JobWords = 110 ∷ 111 ∷ 116 ∷ 32 ∷ 102 ∷ 111 ∷ 117 ∷ 114 ∷ 32 ∷ 110 ∷ 117 ∷ 109 ∷ 98 ∷ 101 ∷ 114 ∷ 115 ∷ 44 ∷ 32 ∷ 111 ∷ 114 ∷ 32 ∷ 102 ∷ 105 ∷ 118 ∷ 101 ∷ 58 ∷ 32 ∷ 105 ∷ 100 ∷ 32 ∷ 99 ∷ 111 ∷ 115 ∷ 116 ∷ 32 ∷ 112 ∷ 101 ∷ 114 ∷ 105 ∷ 111 ∷ 100 ∷ 32 ∷ 100 ∷ 101 ∷ 97 ∷ 100 ∷ 108 ∷ 105 ∷ 110 ∷ 101 ∷ 32 ∷ 100 ∷ 101 ∷ 108 ∷ 97 ∷ 121 ∷ []
fault_template SettingWords = 110 ∷ 111 ∷ 116 ∷ 32 ∷ 102 ∷ 111 ∷ 117 ∷ 114 ∷ 32 ∷ 119 ∷ 111 ∷ 114 ∷ 100 ∷ 115 ∷ 44 ∷ 32 ∷ 111 ∷ 114 ∷ 32 ∷ 102 ∷ 105 ∷ 118 ∷ 101 ∷ 58 ∷ 32 ∷ 105 ∷ 100 ∷ 32 ∷ 108 ∷ 101 ∷ 118 ∷ 101 ∷ 108 ∷ 32 ∷ 112 ∷ 111 ∷ 108 ∷ 105 ∷ 99 ∷ 121 ∷ 32 ∷ 113 ∷ 117 ∷ 97 ∷ 110 ∷ 116 ∷ 117 ∷ 109 ∷ 32 ∷ 98 ∷ 111 ∷ 117 ∷ 110 ∷ 100 ∷ []
fault_template KernelWords = 110 ∷ 111 ∷ 116 ∷ 32 ∷ 102 ∷ 111 ∷ 117 ∷ 114 ∷ 32 ∷ 119 ∷ 111 ∷ 114 ∷ 100 ∷ 115 ∷ 58 ∷ 32 ∷ 105 ∷ 100 ∷ 32 ∷ 112 ∷ 111 ∷ 108 ∷ 105 ∷ 99 ∷ 121 ∷ 32 ∷ 112 ∷ 114 ∷ 105 ∷ 111 ∷ 114 ∷ 105 ∷ 116 ∷ 121 ∷ 32 ∷ 113 ∷ 117 ∷ 97 ∷ 110 ∷ 116 ∷ 117 ∷ 109 ∷ []
fault_template RangeWords = 110 ∷ 111 ∷ 116 ∷ 32 ∷ 116 ∷ 119 ∷ 111 ∷ 32 ∷ 110 ∷ 117 ∷ 109 ∷ 98 ∷ 101 ∷ 114 ∷ 115 ∷ 32 ∷ 97 ∷ 102 ∷ 116 ∷ 101 ∷ 114 ∷ 32 ∷ 116 ∷ 104 ∷ 101 ∷ 32 ∷ 119 ∷ 111 ∷ 114 ∷ 100 ∷ 32 ∷ 113 ∷ 117 ∷ 97 ∷ 110 ∷ 116 ∷ 97 ∷ []
fault_template TooMany = 109 ∷ 111 ∷ 114 ∷ 101 ∷ 32 ∷ 116 ∷ 104 ∷ 97 ∷ 110 ∷ 32 ∷ 56 ∷ 32 ∷ 106 ∷ 111 ∷ 98 ∷ 115 ∷ []
fault_template SecondRange = 97 ∷ 32 ∷ 115 ∷ 101 ∷ 99 ∷ 111 ∷ 110 ∷ 100 ∷ 32 ∷ 108 ∷ 105 ∷ 110 ∷ 101 ∷ 32 ∷ 119 ∷ 105 ∷ 116 ∷ 104 ∷ 32 ∷ 113 ∷ 117 ∷ 97 ∷ 110 ∷ 116 ∷ 97 ∷ []

-- The numbers that are said.
abbrev pub fault_numbers : Fault → List ℕ
fault_numbers (NotANumber place) = place ∷ []
fault_numbers (TooLarge place limit) = place ∷ limit ∷ []
fault_numbers NotAPolicy = []
fault_numbers NotAPolicyName = []
fault_numbers LoneReturn = []
fault_numbers JobWords = []
fault_numbers SettingWords = []
fault_numbers KernelWords = []
fault_numbers RangeWords = []
fault_numbers TooMany = []
fault_numbers SecondRange = []

-- The line of what is said in the text of all, counted from 0.
abbrev pub fault_line : Fault → ℕ
fault_line (NotANumber place) = 0
fault_line (TooLarge place limit) = 1
fault_line NotAPolicy = 2
fault_line NotAPolicyName = 3
fault_line LoneReturn = 4
fault_line JobWords = 5
fault_line SettingWords = 6
fault_line KernelWords = 7
fault_line RangeWords = 8
fault_line TooMany = 9
fault_line SecondRange = 10

-- What is said of a fault.
abbrev pub message : Fault → List ℕ
message fault = filled (fault_template fault) (fault_numbers fault)

-- `line %: `, and what is wrong with that line.
abbrev pub fault_text : ℕ → Fault → List ℕ
fault_text number fault = filled (108 ∷ 105 ∷ 110 ∷ 101 ∷ 32 ∷ 37 ∷ 58 ∷ 32 ∷ []) (number ∷ []) ++ (message fault ++ (line_feed ∷ []))
