-- What is written of jobs, of settings and of kernel records as text is read back to them. Assumes nothing.
use Prim.Native.Nat.{ℕ, zero, suc, ◌+◌, ◌-◌, ◌*◌, ◌/◌, ◌%◌, ◌≤◌, ◌<◌}
use mathlib.Core.Path.{◌≡◌, refl, sym, ap, ap₂, subst, ◌∙◌}
use mathlib.Core.Bool.{Bool, true, false, cond, ◌&&◌, false≢true}
use mathlib.Core.List.{List, [], ◌∷◌, ◌++◌, map, append_assoc, append-nil}
use mathlib.Core.Option.{Option, none, some}
use native.Mathlib.Decide.{dec_le}
use native.Mathlib.Omega.{arith}
use lib.Dec.{eqb, lit<}
use lib.ListN.{length, get_or, take, drop, length-append, get_or-append}
use lib.Seq.{get_or-take}
use borrow.Author.Tests.{lt-ltb, le-leb, ne_eqb, le-ltb}
use Rattle.records.specs.Limits.{most_jobs}
use Rattle.records.specs.Records.{flat}
use Rattle.records.specs.declared.job.Job.{Job}
use Rattle.configuration.specs.declared.setting.Setting.{Setting}
use Rattle.configuration.specs.Settings.{fifo, round_robin}
use Rattle.kernel.specs.declared.record.KernelRecord.{KernelRecord}
use Rattle.same_bytes.specs.Same.{same_bytes}
use Rattle.same_bytes.proofs.Equality.{same-exactly}
use Rattle.lists.specs.Decimals.{space, line_feed, digit, decimal}
use Rattle.lists.specs.declared.words.Mark.TheVariants.{LineEnd, Comment, Return}
use Rattle.std.specs.Prelude.{Result, Ok, Err}
use Rattle.lists.specs.declared.fault.Fault.{Fault}
use Rattle.lists.specs.declared.fields.Form.{Form}
use Rattle.lists.specs.declared.fields.Form.TheVariants.{Job as JobForm, Setting as SettingForm, Kernel as KernelForm, Quanta as QuantaForm}
use Rattle.lists.specs.declared.fields.Row.{Row}
use Rattle.lists.specs.declared.rows.Line.{Line}
use Rattle.lists.specs.declared.fault.Fault.TheVariants.{LoneReturn}
use Rattle.lists.specs.declared.rows.Line.TheVariants.{Skipped, Found, RangeOf}
use Rattle.lists.specs.Words.{tab, carriage_return, number_sign, is_blank, is_mark, is_digit, parts_from, parts, before, non_empty, lines, words, all_digits, value_from, number_of}
use Rattle.lists.specs.Rows.{Numbers, fields_from, read_fields, row_answer, row_line, range_line, none_name, fifo_name, round_robin_name, policy_or, policy_named, word_of, quanta_word, placed_word, words_line, plain_line, read_line, Rows, Reading, given, with_line, read_lines, mark_size, no_rows, read_text}
use Rattle.lists.specs.Lists.{job_from, setting_from, kernel_from, line_text, delay_words, job_text, policy_word, setting_text, kernel_text, list_text, configuration_text, kernels_text, JobFits, SettingFits, KernelFits, RangeFits, AllFit}
use Rattle.lists.proofs.Decimal.{decimal-one, decimal-more}
use Rattle.lists.proofs.Parsing.{digit-range}

-- ---- the digits of a number

both : (a b : Bool) → a && b ≡ true → (a ≡ true) × (b ≡ true)
both true b e = (refl, e)
both false b e = absurd (false≢true e)

digits_append : (xs ys : List ℕ) → all_digits xs ≡ true → all_digits ys ≡ true → all_digits (xs ++ ys) ≡ true
digits_append [] ys g h = h
digits_append (x ∷ xs) ys g h = let k = both (is_digit x) (all_digits xs) g in rw k.0 (digits_append xs ys k.1 h)

value-append : (n : ℕ) (xs : List ℕ) (byte : ℕ) → value_from n (xs ++ (byte ∷ [])) ≡ value_from n xs * 10 + (byte - digit 0)
value-append n [] byte = refl
value-append n (x ∷ xs) byte = value-append (n * 10 + (x - digit 0)) xs byte

digit-is : (d : ℕ) → d < 10 → is_digit (digit d) ≡ true
digit-is d h = rw (le-leb (digit 0) (digit d) (omega arith)) (le-leb (digit d) (digit 9) (omega arith))

-- The word stands for n.
record Spells (n : ℕ) (word : List ℕ) : Type 0 where
  pub digits : all_digits word ≡ true
  pub value : value_from 0 word ≡ n
  pub some : 0 < length word

spelled_by : (k n : ℕ) → n < k → Spells n (decimal n)
spelled_by zero n h = absurd (omega arith)
spelled_by (suc k) n h = elim (dec_le 10 n) [
  | yes l ↦ more l (spelled_by k (n / 10) (omega arith))
  | no l ↦ one (omega arith)
]
  where
    one : n < 10 → Spells n (decimal n)
    one l = subst (Spells n) (sym (decimal-one n l)) (record {
      digits = rw (digit-is (n % 10) (omega arith));
      value = omega arith;
      some = omega arith;
    })

    more : 10 ≤ n → Spells (n / 10) (decimal (n / 10)) → Spells n (decimal n)
    more l s = subst (Spells n) (sym (decimal-more n l)) (record {
      digits = digits_append (decimal (n / 10)) (digit (n % 10) ∷ []) s.digits (rw (digit-is (n % 10) (omega arith)));
      value = value-append 0 (decimal (n / 10)) (digit (n % 10)) ∙ omega (arith, s.value);
      some = omega (arith, length-append (decimal (n / 10)) (digit (n % 10) ∷ []));
    })

decimal-spells : (n : ℕ) → Spells n (decimal n)
decimal-spells n = spelled_by (suc n) n (omega arith)

-- What the writer of decimal numbers writes is read back.
number-back : (told place limit n : ℕ) → n ≤ limit → number_of place told limit (decimal n) ≡ Ok n
unfolding number_of
number-back told place limit n h = let s = decimal-spells n in rw (s.digits, s.value, le-leb n limit h)

-- Two texts that differ are told apart.
other : (a b : List ℕ) → (a ≡ b → ⊥) → same_bytes a b ≡ false
other a b h = go (same_bytes a b) refl
  where
    go : (c : Bool) → same_bytes a b ≡ c → same_bytes a b ≡ false
    go false e = e
    go true e = absurd (h ((same-exactly a b).0 e))

-- A number is not a word that has another byte than digits.
not-word : (n : ℕ) (word : List ℕ) → all_digits word ≡ false → same_bytes (decimal n) word ≡ false
not-word n word h = other (decimal n) word (λ e. false≢true (sym h ∙ ap all_digits (sym e) ∙ (decimal-spells n).digits))

-- ---- words that stand by themselves

abbrev Free : (ℕ → Bool) → List ℕ → Type 0
Free between [] = Unit {0}
Free between (byte ∷ text) = (between byte ≡ false) × Free between text

-- Not empty, and without a byte that ends a word, a line or what stands before a comment.
record Plain (word : List ℕ) : Type 0 where
  pub some : 0 < length word
  pub blank : Free is_blank word
  pub feed : Free (is_mark LineEnd) word
  pub comment : Free (is_mark Comment) word
  pub return : Free (is_mark Return) word
  pub first : get_or word 0 0 < 128

abbrev AllPlain : List (List ℕ) → Type 0
AllPlain [] = Unit {0}
AllPlain (word ∷ rest) = Plain word × AllPlain rest

digits-free : (between : ℕ → Bool) → ((byte : ℕ) → is_digit byte ≡ true → between byte ≡ false) → (xs : List ℕ) → all_digits xs ≡ true → Free between xs
digits-free between apart [] h = tt
digits-free between apart (x ∷ xs) h = let k = both (is_digit x) (all_digits xs) h in (apart x k.0, digits-free between apart xs k.1)

apart : (other : ℕ) → other < digit 0 → (byte : ℕ) → is_digit byte ≡ true → eqb byte other ≡ false
apart other l byte h = ne_eqb byte other (λ (e : byte ≡ other). omega (arith, digit-range byte h))

apart-blank : (byte : ℕ) → is_digit byte ≡ true → is_blank byte ≡ false
apart-blank byte h = rw (apart space (omega arith) byte h, apart tab (omega arith) byte h, apart carriage_return (omega arith) byte h)

first-digit : (word : List ℕ) → all_digits word ≡ true → get_or word 0 0 < 128
first-digit [] h = lit< tt
first-digit (x ∷ xs) h = omega (arith, digit-range x (both (is_digit x) (all_digits xs) h).0)

decimal-plain : (n : ℕ) → Plain (decimal n)
decimal-plain n =
    let s = decimal-spells n in
    record {
      some = s.some;
      blank = digits-free is_blank apart-blank (decimal n) s.digits;
      feed = digits-free (is_mark LineEnd) (apart line_feed (omega arith)) (decimal n) s.digits;
      comment = digits-free (is_mark Comment) (apart number_sign (omega arith)) (decimal n) s.digits;
      return = digits-free (is_mark Return) (apart carriage_return (omega arith)) (decimal n) s.digits;
      first = first-digit (decimal n) s.digits;
    }

policy-plain : (policy : ℕ) → Plain (policy_word policy)
policy-plain zero = record { some = lit< tt; blank = (refl, (refl, (refl, (refl, tt)))); feed = (refl, (refl, (refl, (refl, tt)))); comment = (refl, (refl, (refl, (refl, tt)))); return = (refl, (refl, (refl, (refl, tt)))); first = lit< tt }
policy-plain (suc zero) = record { some = lit< tt; blank = (refl, (refl, (refl, (refl, tt)))); feed = (refl, (refl, (refl, (refl, tt)))); comment = (refl, (refl, (refl, (refl, tt)))); return = (refl, (refl, (refl, (refl, tt)))); first = lit< tt }
policy-plain (suc (suc zero)) = record { some = lit< tt; blank = (refl, (refl, tt)); feed = (refl, (refl, tt)); comment = (refl, (refl, tt)); return = (refl, (refl, tt)); first = lit< tt }
policy-plain (suc (suc (suc policy))) = decimal-plain (suc (suc (suc policy)))

quanta-plain : Plain quanta_word
quanta-plain = record {
  some = lit< tt;
  blank = (refl, (refl, (refl, (refl, (refl, (refl, tt))))));
  feed = (refl, (refl, (refl, (refl, (refl, (refl, tt))))));
  comment = (refl, (refl, (refl, (refl, (refl, (refl, tt))))));
  return = (refl, (refl, (refl, (refl, (refl, (refl, tt))))));
  first = lit< tt;
}

-- ---- a line of plain words

-- It without its line feed.
abbrev body : List ℕ → List (List ℕ) → List ℕ
body word [] = word
body word (next ∷ rest) = word ++ (space ∷ body next rest)

parts_free : (between : ℕ → Bool) (part xs rest : List ℕ) → Free between xs → parts_from between part (xs ++ rest) ≡ parts_from between (part ++ xs) rest
parts_free between part [] rest h = rw append-nil
parts_free between part (x ∷ xs) rest h = rw h.0 (parts_free between (part ++ (x ∷ [])) xs rest h.1 ∙ ap (λ (p : List ℕ). parts_from between p rest) (append_assoc part (x ∷ []) xs))

before-free : (stop : ℕ → Bool) (xs : List ℕ) → Free stop xs → before stop xs ≡ xs
before-free stop [] h = refl
before-free stop (x ∷ xs) h = rw h.0 (ap (λ (l : List ℕ). x ∷ l) (before-free stop xs h.1))

free-append : (between : ℕ → Bool) (xs ys : List ℕ) → Free between xs → Free between ys → Free between (xs ++ ys)
free-append between [] ys g h = h
free-append between (x ∷ xs) ys g h = (g.0, free-append between xs ys g.1 h)

non_empty-some : (word : List ℕ) (rest : List (List ℕ)) → 0 < length word → non_empty (word ∷ rest) ≡ word ∷ non_empty rest
non_empty-some [] rest h = absurd (omega arith)
non_empty-some (byte ∷ word) rest h = refl

body-words : (word : List ℕ) (rest : List (List ℕ)) → Plain word → AllPlain rest → words (body word rest) ≡ word ∷ rest
body-words word [] p q =
    ap words (sym (append-nil word))
    ∙ ap non_empty (parts_free is_blank [] word [] p.blank)
    ∙ non_empty-some word [] p.some
body-words word (next ∷ rest) p q =
    ap non_empty (parts_free is_blank [] word (space ∷ body next rest) p.blank)
    ∙ non_empty-some word (parts is_blank (body next rest)) p.some
    ∙ ap (λ (l : List (List ℕ)). word ∷ l) (body-words next rest q.0 q.1)

body-free : (stop : ℕ → Bool) → stop space ≡ false → ((word : List ℕ) → Plain word → Free stop word) → (word : List ℕ) (rest : List (List ℕ)) → Plain word → AllPlain rest
    → Free stop (body word rest)
body-free stop e free word [] p q = free word p
body-free stop e free word (next ∷ rest) p q = free-append stop word (space ∷ body next rest) (free word p) (e, body-free stop e free next rest q.0 q.1)

body-feed : (word : List ℕ) (rest : List (List ℕ)) (more : List ℕ) → line_text word rest ++ more ≡ body word rest ++ (line_feed ∷ more)
body-feed word [] more = append_assoc word (line_feed ∷ []) more
body-feed word (next ∷ rest) more =
    append_assoc word (space ∷ line_text next rest) more ∙ ap (λ (l : List ℕ). word ++ (space ∷ l)) (body-feed next rest more)
    ∙ sym (append_assoc word (space ∷ body next rest) (line_feed ∷ more))

line_first : (word : List ℕ) (rest : List (List ℕ)) (more : List ℕ) → Plain word → AllPlain rest → lines (line_text word rest ++ more) ≡ body word rest ∷ lines more
line_first word rest more p q =
    ap lines (body-feed word rest more)
    ∙ parts_free (is_mark LineEnd) [] (body word rest) (line_feed ∷ more) (body-free (is_mark LineEnd) refl (λ w x. x.feed) word rest p q)

line_read : (form : Form) (word : List ℕ) (rest : List (List ℕ)) → Plain word → AllPlain rest → read_line form (body word rest) ≡ words_line form (word ∷ rest)
unfolding read_line plain_line
line_read form word rest p q =
    ap (λ (b : Bool). cond b (Err LoneReturn) (plain_line form (body word rest))) (le-ltb (length (before (is_mark Return) (body word rest)) + 1) (length (body word rest)) (omega (arith, ap length whole)))
    ∙ ap (λ (l : List ℕ). words_line form (words l)) (before-free (is_mark Comment) (body word rest) (body-free (is_mark Comment) refl (λ w x. x.comment) word rest p q))
    ∙ ap (words_line form) (body-words word rest p q)
  where
    whole : before (is_mark Return) (body word rest) ≡ body word rest
    whole = before-free (is_mark Return) (body word rest) (body-free (is_mark Return) refl (λ w x. x.return) word rest p q)

-- ---- a text of such lines

-- A kind of row: its words, and what they are read to.
record Written (form : Form) (A : Type 0) : Type 1 where
  pub word : A → List ℕ
  pub rest : A → List (List ℕ)
  pub row : A → Row
  pub Fits : A → Type 0
  pub plain : (a : A) → Plain (word a) × AllPlain (rest a)
  pub reads : (a : A) → Fits a → words_line form (word a ∷ rest a) ≡ Ok (Found (row a))

module _ {A : Type 0} (form : Form) (W : Written form A) where
  abbrev text : A → List ℕ
  text a = line_text (W.word a) (W.rest a)

  rows-read : (number : ℕ) (r : Rows) (xs : List A) → AllFit W.Fits xs → length r.rows + length xs ≤ most_jobs
      → (s : Rows) × (read_lines form number (given r) (lines (flat text xs)) ≡ given s) × (s.rows ≡ r.rows ++ map W.row xs) × (s.range ≡ r.range)
  unfolding flat read_line plain_line
  rows-read number r [] fit few = (r, refl, sym (append-nil r.rows), refl)
  rows-read number r (x ∷ xs) fit few =
      let next : Rows = record { rows = r.rows ++ (W.row x ∷ []); at = r.at ++ (number ∷ []); range = r.range } in
      let long : length (r.rows ++ (W.row x ∷ [])) + length xs ≤ most_jobs = omega (arith, length-append r.rows (W.row x ∷ [])) in
      let more = rows-read (number + 1) next xs fit.1 long in
      let fits : with_line number (Ok (Found (W.row x))) (given r) ≡ given next = rw (lt-ltb (length r.rows) most_jobs (omega arith)) in (
        more.0,
        ap (read_lines form number (given r)) (line_first (W.word x) (W.rest x) (flat text xs) (W.plain x).0 (W.plain x).1)
            ∙ ap (λ (l : Result Line Fault). read_lines form (number + 1) (with_line number l (given r)) (lines (flat text xs))) (line_read form (W.word x) (W.rest x) (W.plain x).0 (W.plain x).1 ∙ W.reads x fit.0)
            ∙ ap (λ (g : Reading Rows). read_lines form (number + 1) g (lines (flat text xs))) fits
            ∙ more.1,
        more.2 ∙ append_assoc r.rows (W.row x ∷ []) (map W.row xs),
        more.3,
      )

-- A text that begins with a byte below 128 has no mark before it.
no-mark : (text : List ℕ) → get_or text 0 0 < 128 → mark_size text ≡ 0
no-mark text h = ap (λ (b : Bool). cond b 3 0) (other (take 3 text) (239 ∷ 187 ∷ 191 ∷ []) (λ e.
    let first : get_or text 0 0 ≡ 239 = sym (get_or-take 3 text 0 0 (lit< tt)) ∙ ap (λ (l : List ℕ). get_or l 0 0) e in
    omega arith))

line-starts : (word : List ℕ) (rest : List (List ℕ)) (more : List ℕ) → Plain word → get_or (line_text word rest ++ more) 0 0 < 128
line-starts word [] more p = rw (append_assoc word (line_feed ∷ []) more, get_or-append word (line_feed ∷ more) 0 0 p.some) p.first
line-starts word (next ∷ rest) more p = rw (append_assoc word (space ∷ line_text next rest) more, get_or-append word (space ∷ (line_text next rest ++ more)) 0 0 p.some) p.first

-- ---- one field

field_step : (form : Form) (seen : List ℕ) (limit : ℕ) (limits word : List ℕ) (rest : List (List ℕ)) (n : ℕ) → word_of form (length seen) limit word ≡ Ok n
    → fields_from form seen (limit ∷ limits) (word ∷ rest) ≡ fields_from form (seen ++ (n ∷ [])) limits rest
field_step form seen limit limits word rest n e =
    ap (λ (w : Result ℕ Fault). elim w [ Ok m ↦ fields_from form (seen ++ (m ∷ [])) limits rest | Err fault ↦ Err fault ]) e

-- ---- jobs

abbrev job_row : Job → Row
job_row job = record { first = job.id; second = job.cost; third = job.period; fourth = job.deadline; fifth = job.delay }

delay-plain : (delay : ℕ) → AllPlain (delay_words delay)
delay-plain zero = tt
delay-plain (suc delay) = (decimal-plain (suc delay), tt)

job_read : (id cost period deadline delay : ℕ) → (id ≤ 255) × (delay ≤ 255) × (cost ≤ 65535) × (period ≤ 65535) × (deadline ≤ 65535)
    → words_line JobForm (decimal id ∷ decimal cost ∷ decimal period ∷ decimal deadline ∷ delay_words delay) ≡ Ok (Found (job_row (record { id = id; delay = delay; cost = cost; period = period; deadline = deadline })))
unfolding word_of
job_read id cost period deadline delay fit =
    ap (λ (b : Bool). cond b (range_line (row_answer (read_fields QuantaForm (decimal cost ∷ decimal period ∷ decimal deadline ∷ delay_words delay)))) (row_line (row_answer (read_fields JobForm (decimal id ∷ decimal cost ∷ decimal period ∷ decimal deadline ∷ delay_words delay))))) (not-word id quanta_word refl)
    ∙ ap (λ (x : Numbers). row_line (row_answer x))
    (field_step JobForm [] 255 (65535 ∷ 65535 ∷ 65535 ∷ 255 ∷ []) (decimal id) (decimal cost ∷ decimal period ∷ decimal deadline ∷ delay_words delay) id (number-back 255 1 255 id fit.0)
    ∙ field_step JobForm (id ∷ []) 65535 (65535 ∷ 65535 ∷ 255 ∷ []) (decimal cost) (decimal period ∷ decimal deadline ∷ delay_words delay) cost (number-back 60000 2 65535 cost fit.2)
    ∙ field_step JobForm (id ∷ cost ∷ []) 65535 (65535 ∷ 255 ∷ []) (decimal period) (decimal deadline ∷ delay_words delay) period (number-back 60000 3 65535 period fit.3)
    ∙ field_step JobForm (id ∷ cost ∷ period ∷ []) 65535 (255 ∷ []) (decimal deadline) (delay_words delay) deadline (number-back 60000 4 65535 deadline fit.4))
    ∙ last delay fit.1
  where
    last : (d : ℕ) → d ≤ 255 → row_line (row_answer (fields_from JobForm (id ∷ cost ∷ period ∷ deadline ∷ []) (255 ∷ []) (delay_words d)))
        ≡ Ok (Found (job_row (record { id = id; delay = d; cost = cost; period = period; deadline = deadline })))
    last zero h = refl
    last (suc d) h = ap (λ (x : Numbers). row_line (row_answer x)) (field_step JobForm (id ∷ cost ∷ period ∷ deadline ∷ []) 255 [] (decimal (suc d)) [] (suc d) (number-back 255 5 255 (suc d) h))

abbrev jobs-written : Written JobForm Job
jobs-written = record {
  word = λ job. decimal job.id;
  rest = λ job. decimal job.cost ∷ decimal job.period ∷ decimal job.deadline ∷ delay_words job.delay;
  row = job_row;
  Fits = JobFits;
  plain = λ job. (decimal-plain job.id, (decimal-plain job.cost, (decimal-plain job.period, (decimal-plain job.deadline, delay-plain job.delay))));
  reads = λ job fit. job_read job.id job.cost job.period job.deadline job.delay fit;
}

jobs-back : (jobs : List Job) → AllFit JobFits jobs → map job_from (map job_row jobs) ≡ jobs
jobs-back [] fit = refl
jobs-back (job ∷ jobs) fit =
    let id : job.id % 256 ≡ job.id = omega (arith, fit.0.0) in
    let delay : job.delay % 256 ≡ job.delay = omega (arith, fit.0.1) in
    ap₂ (λ (j : Job) (l : List Job). j ∷ l)
    (ap₂ (λ (i d : ℕ). record { id = i; delay = d; cost = job.cost; period = job.period; deadline = job.deadline }) id delay)
    (jobs-back jobs fit.1)

-- The line of a range.
range-read : (low high : ℕ) → (low ≤ 255) × (high ≤ 255) → words_line JobForm (quanta_word ∷ decimal low ∷ decimal high ∷ []) ≡ Ok (RangeOf (record { low = low; high = high }))
unfolding word_of
range-read low high fit =
    ap (λ (b : Bool). cond b (range_line (row_answer (read_fields QuantaForm (decimal low ∷ decimal high ∷ [])))) (row_line (row_answer (read_fields JobForm (quanta_word ∷ decimal low ∷ decimal high ∷ []))))) ((same-exactly quanta_word quanta_word).1 refl)
    ∙ ap (λ (x : Numbers). range_line (row_answer x))
    (field_step QuantaForm [] 255 (255 ∷ []) (decimal low) (decimal high ∷ []) low (number-back 64 2 255 low fit.0) ∙ field_step QuantaForm (low ∷ []) 255 [] (decimal high) [] high (number-back 64 3 255 high fit.1))

-- What is written of a range, or of none, and of at most 8 jobs whose numbers fit their records is read back to exactly these.
pub list_back : (range : Option (ℕ × ℕ)) (jobs : List Job) → RangeFits range → AllFit JobFits jobs → length jobs ≤ most_jobs
    → (r : Rows) × (read_text JobForm (list_text range jobs) ≡ given r) × (map job_from r.rows ≡ jobs) × (r.range ≡ range)
unfolding read_text list_text flat read_line plain_line
list_back none jobs rf fit few =
    let w = rows-read JobForm jobs-written 1 no_rows jobs fit (omega arith) in
    (w.0, ap (λ (k : ℕ). read_lines JobForm 1 (given no_rows) (lines (drop k (flat job_text jobs)))) (no-mark (flat job_text jobs) (starts jobs)) ∙ w.1, ap (map job_from) w.2 ∙ jobs-back jobs fit, w.3)
  where
    starts : (xs : List Job) → get_or (flat job_text xs) 0 0 < 128
    starts [] = lit< tt
    starts (x ∷ xs) = line-starts (decimal x.id) (decimal x.cost ∷ decimal x.period ∷ decimal x.deadline ∷ delay_words x.delay) (flat job_text xs) (decimal-plain x.id)
list_back (some range) jobs rf fit few =
    let said : Rows = record { rows = []; at = []; range = some range } in
    let w = rows-read JobForm jobs-written 2 said jobs fit (omega arith) in
    let rest : List (List ℕ) = decimal range.0 ∷ decimal range.1 ∷ [] in
    let plain : AllPlain rest = (decimal-plain range.0, (decimal-plain range.1, tt)) in (
      w.0,
      ap (λ (k : ℕ). read_lines JobForm 1 (given no_rows) (lines (drop k (line_text quanta_word rest ++ flat job_text jobs)))) (no-mark (line_text quanta_word rest ++ flat job_text jobs) (line-starts quanta_word rest (flat job_text jobs) quanta-plain))
          ∙ ap (read_lines JobForm 1 (given no_rows)) (line_first quanta_word rest (flat job_text jobs) quanta-plain plain)
          ∙ ap (λ (l : Result Line Fault). read_lines JobForm 2 (with_line 1 l (given no_rows)) (lines (flat job_text jobs))) (line_read JobForm quanta_word rest quanta-plain plain ∙ range-read range.0 range.1 rf)
          ∙ w.1,
      ap (map job_from) w.2 ∙ jobs-back jobs fit,
      w.3,
    )

-- ---- settings

abbrev setting_row : Setting → Row
setting_row setting = record { first = setting.id; second = setting.level; third = setting.policy; fourth = setting.quantum; fifth = 0 }

robin-not-fifo : same_bytes round_robin_name fifo_name ≡ false
robin-not-fifo = other round_robin_name fifo_name (λ e. false≢true (ap (λ (l : List ℕ). eqb (get_or l 0 0) 102) e))

policy-read : (place policy : ℕ) → policy ≤ 255 → policy_or (policy_word policy) (number_of place 2 255 (policy_word policy)) ≡ Ok policy
unfolding policy_or policy_named
policy-read place zero fit = rw ((same-exactly none_name none_name).1 refl)
policy-read place (suc zero) fit = rw (differ, (same-exactly fifo_name fifo_name).1 refl)
  where
    differ : same_bytes fifo_name none_name ≡ false
    differ = other fifo_name none_name (λ e. false≢true (ap (λ (l : List ℕ). eqb (get_or l 0 0) 110) e))
policy-read place (suc (suc zero)) fit = rw (differ, robin-not-fifo, (same-exactly round_robin_name round_robin_name).1 refl)
  where
    differ : same_bytes round_robin_name none_name ≡ false
    differ = other round_robin_name none_name (λ e. false≢true (ap (λ (l : List ℕ). eqb (get_or l 0 0) 110) e))
policy-read place (suc (suc (suc policy))) fit =
    let n = suc (suc (suc policy)) in
    rw (not-word n none_name refl, not-word n fifo_name refl, not-word n round_robin_name refl, number-back 2 place 255 n fit)

setting-read : (setting : Setting) → SettingFits setting
    → words_line SettingForm (decimal setting.id ∷ decimal setting.level ∷ policy_word setting.policy ∷ decimal setting.quantum ∷ []) ≡ Ok (Found (setting_row setting))
unfolding word_of
setting-read setting fit =
    ap (λ (b : Bool). cond b (Ok Skipped) (row_line (row_answer (read_fields SettingForm (decimal setting.id ∷ decimal setting.level ∷ policy_word setting.policy ∷ decimal setting.quantum ∷ []))))) (not-word setting.id placed_word refl)
    ∙ ap (λ (x : Numbers). row_line (row_answer x))
    (field_step SettingForm [] 255 (255 ∷ 255 ∷ 255 ∷ 65535 ∷ []) (decimal setting.id) (decimal setting.level ∷ policy_word setting.policy ∷ decimal setting.quantum ∷ []) setting.id (number-back 255 1 255 setting.id fit.0)
    ∙ field_step SettingForm (setting.id ∷ []) 255 (255 ∷ 255 ∷ 65535 ∷ []) (decimal setting.level) (policy_word setting.policy ∷ decimal setting.quantum ∷ []) setting.level (number-back 8 2 255 setting.level fit.1)
    ∙ field_step SettingForm (setting.id ∷ setting.level ∷ []) 255 (255 ∷ 65535 ∷ []) (policy_word setting.policy) (decimal setting.quantum ∷ []) setting.policy (policy-read 3 setting.policy fit.2)
    ∙ field_step SettingForm (setting.id ∷ setting.level ∷ setting.policy ∷ []) 255 (65535 ∷ []) (decimal setting.quantum) [] setting.quantum (number-back 64 4 255 setting.quantum fit.3))

abbrev settings-written : Written SettingForm Setting
settings-written = record {
  word = λ setting. decimal setting.id;
  rest = λ setting. decimal setting.level ∷ policy_word setting.policy ∷ decimal setting.quantum ∷ [];
  row = setting_row;
  Fits = SettingFits;
  plain = λ setting. (decimal-plain setting.id, (decimal-plain setting.level, (policy-plain setting.policy, (decimal-plain setting.quantum, tt))));
  reads = setting-read;
}

settings-back : (settings : List Setting) → AllFit SettingFits settings → map setting_from (map setting_row settings) ≡ settings
settings-back [] fit = refl
settings-back (setting ∷ settings) fit =
    let id : setting.id % 256 ≡ setting.id = omega (arith, fit.0.0) in
    let level : setting.level % 256 ≡ setting.level = omega (arith, fit.0.1) in
    let policy : setting.policy % 256 ≡ setting.policy = omega (arith, fit.0.2) in
    let quantum : setting.quantum % 256 ≡ setting.quantum = omega (arith, fit.0.3) in
    ap₂ (λ (s : Setting) (l : List Setting). s ∷ l) (rw (id, level, policy, quantum)) (settings-back settings fit.1)

-- The same of at most 8 settings.
pub configuration-back : (settings : List Setting) → AllFit SettingFits settings → length settings ≤ most_jobs
    → (r : Rows) × (read_text SettingForm (configuration_text settings) ≡ given r) × (map setting_from r.rows ≡ settings)
unfolding read_text configuration_text flat
configuration-back settings fit few =
    let w = rows-read SettingForm settings-written 1 no_rows settings fit (omega arith) in
    (w.0, ap (λ (k : ℕ). read_lines SettingForm 1 (given no_rows) (lines (drop k (flat setting_text settings)))) (no-mark (flat setting_text settings) (starts settings)) ∙ w.1, ap (map setting_from) w.2 ∙ settings-back settings fit)
  where
    starts : (xs : List Setting) → get_or (flat setting_text xs) 0 0 < 128
    starts [] = lit< tt
    starts (x ∷ xs) = line-starts (decimal x.id) (decimal x.level ∷ policy_word x.policy ∷ decimal x.quantum ∷ []) (flat setting_text xs) (decimal-plain x.id)

-- ---- kernel records

abbrev kernel_row : KernelRecord → Row
kernel_row kernel = record { first = kernel.id; second = kernel.policy; third = kernel.priority.0; fourth = kernel.quantum; fifth = 0 }

name-read : (policy : ℕ) → fifo ≤ policy → policy ≤ round_robin → policy_named (policy_word policy) ≡ Ok policy
unfolding policy_named
name-read zero a b = absurd (omega arith)
name-read (suc zero) a b = rw ((same-exactly fifo_name fifo_name).1 refl)
name-read (suc (suc zero)) a b = rw (robin-not-fifo, (same-exactly round_robin_name round_robin_name).1 refl)
name-read (suc (suc (suc policy))) a b = absurd (omega arith)

kernel-read : (kernel : KernelRecord) → KernelFits kernel
    → words_line KernelForm (decimal kernel.id ∷ policy_word kernel.policy ∷ decimal kernel.priority.0 ∷ decimal kernel.quantum ∷ []) ≡ Ok (Found (kernel_row kernel))
unfolding word_of
kernel-read kernel fit =
    let priority = kernel.priority.0 in
    ap (λ (x : Numbers). row_line (row_answer x))
    (field_step KernelForm [] 255 (255 ∷ 255 ∷ 255 ∷ []) (decimal kernel.id) (policy_word kernel.policy ∷ decimal priority ∷ decimal kernel.quantum ∷ []) kernel.id (number-back 255 1 255 kernel.id fit.0)
    ∙ field_step KernelForm (kernel.id ∷ []) 255 (255 ∷ 255 ∷ []) (policy_word kernel.policy) (decimal priority ∷ decimal kernel.quantum ∷ []) kernel.policy (name-read kernel.policy fit.1.0 fit.1.1)
    ∙ field_step KernelForm (kernel.id ∷ kernel.policy ∷ []) 255 (255 ∷ []) (decimal priority) (decimal kernel.quantum ∷ []) priority (number-back 255 3 255 priority fit.2)
    ∙ field_step KernelForm (kernel.id ∷ kernel.policy ∷ priority ∷ []) 255 [] (decimal kernel.quantum) [] kernel.quantum (number-back 64 4 255 kernel.quantum fit.3))

abbrev kernels-written : Written KernelForm KernelRecord
kernels-written = record {
  word = λ kernel. decimal kernel.id;
  rest = λ kernel. policy_word kernel.policy ∷ decimal kernel.priority.0 ∷ decimal kernel.quantum ∷ [];
  row = kernel_row;
  Fits = KernelFits;
  plain = λ kernel. (decimal-plain kernel.id, (policy-plain kernel.policy, (decimal-plain kernel.priority.0, (decimal-plain kernel.quantum, tt))));
  reads = kernel-read;
}

kernels-back : (kernels : List KernelRecord) → AllFit KernelFits kernels → map kernel_from (map kernel_row kernels) ≡ kernels
kernels-back [] fit = refl
kernels-back (kernel ∷ kernels) fit =
    let id : kernel.id % 256 ≡ kernel.id = omega (arith, fit.0.0) in
    let policy : kernel.policy % 256 ≡ kernel.policy = omega (arith, fit.0.1.1) in
    let priority : kernel.priority.0 % 256 ≡ kernel.priority.0 = omega (arith, fit.0.2) in
    let quantum : kernel.quantum % 256 ≡ kernel.quantum = omega (arith, fit.0.3) in
    ap₂ (λ (k : KernelRecord) (l : List KernelRecord). k ∷ l) (rw (id, policy, priority, quantum)) (kernels-back kernels fit.1)

-- The same of at most 8 kernel records with policies that accepted ones have.
pub kernels-text-back : (kernels : List KernelRecord) → AllFit KernelFits kernels → length kernels ≤ most_jobs
    → (r : Rows) × (read_text KernelForm (kernels_text kernels) ≡ given r) × (map kernel_from r.rows ≡ kernels)
unfolding read_text kernels_text flat
kernels-text-back kernels fit few =
    let w = rows-read KernelForm kernels-written 1 no_rows kernels fit (omega arith) in
    (w.0, ap (λ (k : ℕ). read_lines KernelForm 1 (given no_rows) (lines (drop k (flat kernel_text kernels)))) (no-mark (flat kernel_text kernels) (starts kernels)) ∙ w.1, ap (map kernel_from) w.2 ∙ kernels-back kernels fit)
  where
    starts : (xs : List KernelRecord) → get_or (flat kernel_text xs) 0 0 < 128
    starts [] = lit< tt
    starts (x ∷ xs) = line-starts (decimal x.id) (policy_word x.policy ∷ decimal x.priority.0 ∷ decimal x.quantum ∷ []) (flat kernel_text xs) (decimal-plain x.id)
