-- No text is read both as a configuration and as kernel records, so that no level is taken for a priority. Assumes nothing.
use Prim.Native.Nat.{ℕ, ◌+◌}
use mathlib.Core.Path.{◌≡◌, refl, sym, ap, ◌∙◌}
use mathlib.Core.Bool.{Bool, true, false, cond}
use mathlib.Core.List.{List, [], ◌∷◌}
use mathlib.Core.Option.{Option, none, some}
use native.Mathlib.Omega.{arith}
use lib.ListN.{drop}
use Rattle.same_bytes.specs.Same.{same_bytes}
use Rattle.same_bytes.proofs.Equality.{same-exactly}
use Rattle.lists.specs.declared.fault.Fault.{Fault}
use Rattle.lists.specs.declared.fault.Fault.TheVariants.{NotANumber, NotAPolicyName, LoneReturn, SecondRange}
use Rattle.std.specs.Prelude.{Result, Ok, Err}
use Rattle.lists.specs.declared.fields.Form.{Form}
use Rattle.lists.specs.declared.fields.Form.TheVariants.{Setting as SettingForm, Kernel as KernelForm}
use Rattle.lists.specs.declared.fields.Row.{Row}
use Rattle.lists.specs.declared.rows.Line.{Line}
use Rattle.lists.specs.declared.rows.Line.TheVariants.{Skipped, Found, RangeOf}
use Rattle.lists.specs.declared.words.Mark.TheVariants.{Comment}
use Rattle.lists.specs.Words.{is_mark, before, lines, words, number_of}
use Rattle.lists.proofs.RowByRow.{fault-stays}
use Rattle.lists.specs.Rows.{fifo_name, round_robin_name, placed_word, policy_named, word_of, Numbers, fields_from, read_fields, row_answer, row_line, words_line, lone_return, plain_line, read_line, Rows, Reading, given, faulty, with_line, read_lines, mark_size, no_rows, read_text}

-- ---- the words of a line

-- The name of a policy is no number.
name-no-number : (word : List ℕ) (n : ℕ) → policy_named word ≡ Ok n → word_of SettingForm 1 255 word ≡ Err (NotANumber 2)
unfolding word_of policy_named number_of
name-no-number word n e = go (same_bytes word fifo_name) (same_bytes word round_robin_name) refl refl e
  where
    go : (a b : Bool) → same_bytes word fifo_name ≡ a → same_bytes word round_robin_name ≡ b → cond a (Ok 1) (cond b (Ok 2) (Err NotAPolicyName)) ≡ Ok n
        → word_of SettingForm 1 255 word ≡ Err (NotANumber 2)
    go true b f r h = ap (word_of SettingForm 1 255) ((same-exactly word fifo_name).0 f)
    go false true f r h = ap (word_of SettingForm 1 255) ((same-exactly word round_robin_name).0 r)
    go false false f r h = absurd (let z : ◌≡◌ {A = ℕ} 0 1 = cc in omega arith)

-- The word of the first field, and of the second, in a line that is read.
module _ (form : Form) (limit : ℕ) (limits word a : List ℕ) (rest : List (List ℕ)) where
  first_read : fields_from form [] (limit ∷ limits) (word ∷ rest) ≡ Ok a → (n : ℕ) × (word_of form 0 limit word ≡ Ok n)
  first_read e = go (word_of form 0 limit word) refl e
    where
      go : (x : Result ℕ Fault) → word_of form 0 limit word ≡ x → ◌≡◌ {A = Numbers} (elim x [ Ok n ↦ fields_from form (n ∷ []) limits rest | Err fault ↦ Err fault ]) (Ok a)
          → (n : ℕ) × (word_of form 0 limit word ≡ Ok n)
      go (Ok n) f h = (n, f)
      go (Err fault) f h = absurd (let z : ◌≡◌ {A = ℕ} 0 1 = cc in omega arith)

  next-read : (m : ℕ) → fields_from form (m ∷ []) (limit ∷ limits) (word ∷ rest) ≡ Ok a → (n : ℕ) × (word_of form 1 limit word ≡ Ok n)
  next-read m e = go (word_of form 1 limit word) refl e
    where
      go : (x : Result ℕ Fault) → word_of form 1 limit word ≡ x → ◌≡◌ {A = Numbers} (elim x [ Ok n ↦ fields_from form (m ∷ n ∷ []) limits rest | Err fault ↦ Err fault ]) (Ok a)
          → (n : ℕ) × (word_of form 1 limit word ≡ Ok n)
      go (Ok n) f h = (n, f)
      go (Err fault) f h = absurd (let z : ◌≡◌ {A = ℕ} 0 1 = cc in omega arith)

second-read : (form : Form) (limit next : ℕ) (limits word second a : List ℕ) (rest : List (List ℕ)) → fields_from form [] (limit ∷ next ∷ limits) (word ∷ second ∷ rest) ≡ Ok a
    → (n : ℕ) × (word_of form 1 next second ≡ Ok n)
second-read form limit next limits word second a rest e =
    let first = first_read form limit (next ∷ limits) word a (second ∷ rest) e in
    next-read form next limits second a rest first.0
    (sym (ap (λ (w : Result ℕ Fault). elim w [ Ok n ↦ fields_from form (n ∷ []) (next ∷ limits) (second ∷ rest) | Err fault ↦ Err fault ]) first.1) ∙ e)

-- Words that are a kernel record's are no setting's.
apart-fields : (ws : List (List ℕ)) (a b : List ℕ) → read_fields KernelForm ws ≡ Ok a → read_fields SettingForm ws ≡ Ok b → ⊥
unfolding word_of
apart-fields [] a b e f = let z : ◌≡◌ {A = ℕ} 0 1 = cc in omega arith
apart-fields (word ∷ []) a b e f =
    let first = first_read KernelForm 255 (255 ∷ 255 ∷ 255 ∷ []) word a [] e in
    let short = sym (ap (λ (w : Result ℕ Fault). elim w [ Ok n ↦ fields_from KernelForm (n ∷ []) (255 ∷ 255 ∷ 255 ∷ []) [] | Err fault ↦ Err fault ]) first.1) ∙ e in
    let z : ◌≡◌ {A = ℕ} 0 1 = cc in
    omega arith
apart-fields (word ∷ second ∷ rest) a b e f =
    let named = second-read KernelForm 255 255 (255 ∷ 255 ∷ []) word second a rest e in
    let number = second-read SettingForm 255 255 (255 ∷ 255 ∷ 65535 ∷ []) word second b rest f in
    let none = name-no-number second named.0 named.1 in
    let z : ◌≡◌ {A = ℕ} 0 1 = cc in
    omega arith

fields-found : (x : Numbers) (row : Row) → row_line (row_answer x) ≡ Ok (Found row) → (a : List ℕ) × (x ≡ Ok a)
fields-found (Ok a) row e = (a, refl)
fields-found (Err fault) row e = absurd (let z : ◌≡◌ {A = ℕ} 0 1 = cc in omega arith)

apart_words : (ws : List (List ℕ)) (row : Row) → words_line KernelForm ws ≡ Ok (Found row) → (fault : Fault) × (words_line SettingForm ws ≡ Err fault)
unfolding word_of number_of
apart_words [] row e = absurd (let z : ◌≡◌ {A = ℕ} 0 1 = cc in omega arith)
apart_words (word ∷ rest) row e = go (same_bytes word placed_word) (read_fields SettingForm (word ∷ rest)) refl refl
  where
    kernel : (a : List ℕ) × (read_fields KernelForm (word ∷ rest) ≡ Ok a)
    kernel = fields-found (read_fields KernelForm (word ∷ rest)) row e

    -- The last line of a key begins with no number.
    not-placed : same_bytes word placed_word ≡ true → ⊥
    not-placed p =
        let first = first_read KernelForm 255 (255 ∷ 255 ∷ 255 ∷ []) word kernel.0 rest kernel.1 in
        let other = sym (ap (word_of KernelForm 0 255) ((same-exactly word placed_word).0 p)) ∙ first.1 in
        let z : ◌≡◌ {A = ℕ} 0 1 = cc in
        omega arith

    go : (b : Bool) (x : Numbers) → same_bytes word placed_word ≡ b → read_fields SettingForm (word ∷ rest) ≡ x → (fault : Fault) × (cond b (Ok Skipped) (row_line (row_answer x)) ≡ Err fault)
    go true x p f = absurd (not-placed p)
    go false (Err fault) p f = (fault, refl)
    go false (Ok b) p f = absurd (apart-fields (word ∷ rest) kernel.0 b kernel.1 f)

-- A line that is read as a kernel record is a faulty line of a configuration.
apart-line : (line : List ℕ) (row : Row) → read_line KernelForm line ≡ Ok (Found row) → (fault : Fault) × (read_line SettingForm line ≡ Err fault)
unfolding read_line plain_line
apart-line line row e = go (lone_return line) e
  where
    go : (b : Bool) → cond b (Err LoneReturn) (plain_line KernelForm line) ≡ Ok (Found row) → (fault : Fault) × (cond b (Err LoneReturn) (plain_line SettingForm line) ≡ Err fault)
    go true h = (LoneReturn, refl)
    go false h = apart_words (words (before (is_mark Comment) line)) row h

-- ---- a text

-- A text that is read to its end has no fault before.
goes_on : (form : Form) (number : ℕ) (rest : List (List ℕ)) (b : Rows) (g : Reading Rows) → read_lines form number g rest ≡ given b → (s : Rows) × (g ≡ given s)
goes_on form number rest b (given s) k = (s, refl)
goes_on form number rest b (faulty earlier fault) k = absurd (let stays = fault-stays form number earlier fault rest in let z : ◌≡◌ {A = ℕ} 0 1 = cc in omega arith)

-- The reading of a line with no kernel record has none more.
no_row : (number : ℕ) (x : Result Line Fault) (r s : Rows) → ((row : Row) → x ≡ Ok (Found row) → ⊥) → with_line number x (given r) ≡ given s → s.rows ≡ r.rows
no_row number (Ok Skipped) r s h e = let same : r ≡ s = cc in ap (λ (y : Rows). y.rows) (sym same)
no_row number (Err fault) r s h e = absurd (let z : ◌≡◌ {A = ℕ} 0 1 = cc in omega arith)
no_row number (Ok (Found row)) r s h e = absurd (h row refl)
no_row number (Ok (RangeOf range)) r s h e = by r.range e
  where
    said : Rows
    said = record { rows = r.rows; at = r.at; range = some (range.low, range.high) }

    by : (o : Option (ℕ × ℕ)) → elim o [ none ↦ given said | some before ↦ faulty number SecondRange ] ≡ given s → s.rows ≡ r.rows
    by none k = let same : said ≡ s = cc in ap (λ (y : Rows). y.rows) (sym same)
    by (some before) k = absurd (let z : ◌≡◌ {A = ℕ} 0 1 = cc in omega arith)

apart_from : (text : List (List ℕ)) (number : ℕ) (r s a b : Rows) → read_lines KernelForm number (given r) text ≡ given a → read_lines SettingForm number (given s) text ≡ given b → a.rows ≡ r.rows
apart_from [] number r s a b e f = let same : r ≡ a = cc in ap (λ (x : Rows). x.rows) (sym same)
apart_from (line ∷ rest) number r s a b e f =
    let kernel = goes_on KernelForm (number + 1) rest a (with_line number (read_line KernelForm line) (given r)) e in
    let setting = goes_on SettingForm (number + 1) rest b (with_line number (read_line SettingForm line) (given s)) f in
    apart_from rest (number + 1) kernel.0 setting.0 a b
    (sym (ap (λ (g : Reading Rows). read_lines KernelForm (number + 1) g rest) kernel.1) ∙ e)
    (sym (ap (λ (g : Reading Rows). read_lines SettingForm (number + 1) g rest) setting.1) ∙ f)
    ∙ no_row number (read_line KernelForm line) r kernel.0 (none_found setting.0 setting.1) kernel.1
  where
    none_found : (s' : Rows) → with_line number (read_line SettingForm line) (given s) ≡ given s' → (row : Row) → read_line KernelForm line ≡ Ok (Found row) → ⊥
    none_found s' k row x =
        let apart = apart-line line row x in
        let fault : with_line number (read_line SettingForm line) (given s) ≡ faulty number apart.0 = ap (λ (l : Result Line Fault). with_line number l (given s)) apart.1 in
        let z : ◌≡◌ {A = ℕ} 0 1 = cc in
        omega arith

-- A text that is read both as a configuration and as kernel records has no kernel record.
pub never_both : (text : List ℕ) (a b : Rows) → read_text KernelForm text ≡ given a → read_text SettingForm text ≡ given b → a.rows ≡ []
unfolding read_text
never_both text a b e f = apart_from (lines (drop (mark_size text) text)) 1 no_rows no_rows a b e f
