-- The block of a text's rows is what is written of them. Assumes nothing.
use Prim.Native.Nat.{ℕ, ◌*◌, ◌≤◌}
use mathlib.Core.Path.{◌≡◌, refl, ap, ◌∙◌}
use mathlib.Core.List.{List, [], map}
use mathlib.Core.Option.{Option}
use native.Mathlib.Omega.{arith}
use borrow.Author.Tests.{le-leb}
use lib.ListN.{length, take, length-map}
use lib.Seq.{take_at}
use Rattle.std.specs.Prelude.{Result, Ok, Err}
use Rattle.std.specs.Result.{result_unwrap_or}
use Rattle.records.specs.Limits.{most_jobs}
use Rattle.records.specs.Refusals.{Answer, refused, given as gives, number, counted}
use Rattle.records.specs.Records.{flat, written, write_records}
use Rattle.records.specs.Jobs.{job_size, job_bytes, bytes_of}
use Rattle.records.specs.declared.job.Job.{Job}
use Rattle.records.specs.declared.refusal.Refusal.{Refusal}
use Rattle.records.proofs.FixedWidth.{length-flat}
use Rattle.records.specs.RecordLaws.{job-width}
use Rattle.configuration.specs.Settings.{setting_size, setting_bytes}
use Rattle.configuration.specs.RecordLaws.{setting-width}
use Rattle.configuration.specs.declared.setting.Setting.{Setting}
use Rattle.kernel.specs.KernelRecords.{kernel_size, kernel_bytes}
use Rattle.kernel.specs.RecordLaws.{kernel-width}
use Rattle.kernel.specs.declared.record.KernelRecord.{KernelRecord}
use Rattle.lists.specs.declared.fields.Form.{Form}
use Rattle.lists.specs.declared.fields.Form.TheVariants.{Job as JobForm, Setting as SettingForm, Kernel as KernelForm, Quanta}
use Rattle.lists.specs.declared.fields.Row.{Row}
use Rattle.lists.specs.Rows.{given, read_text}
use Rattle.lists.specs.Lists.{job_from, setting_from, kernel_from, list_text, configuration_text, kernels_text, JobFits, SettingFits, KernelFits, RangeFits, AllFit}
use Rattle.lists.specs.Blocks.{block_of, block_reading, Handed, put_rows}
use Rattle.lists.proofs.TextTrip.{list_back, configuration-back, kernels-text-back}

-- What a writer of records leaves at the start of an output with room for them.
module _ {A : Type 0} (w : ℕ) (bytes : A → List ℕ) (width : (a : A) → length (bytes a) ≡ w) (xs : List A) (output : List ℕ) (room : w * length xs ≤ length output) where
  fits : write_records w bytes xs output ≡ (gives (w * length xs), written w bytes xs output)
  unfolding write_records
  fits = simp (le-leb (w * length xs) (length output) room)

  wrote-block : (wrote : Result ℕ Refusal) (after : List ℕ) → (counted wrote, after) ≡ write_records w bytes xs output
      → (take (result_unwrap_or wrote 0) after ≡ flat bytes xs) × (result_unwrap_or wrote 0 ≡ w * length xs)
  wrote-block (Ok n) after e =
      let size : n ≡ w * length xs = let s : gives n ≡ gives (w * length xs) = ap (λ (x : Answer ℕ × List ℕ). x.0) (e ∙ fits) in cc in
      let all : after ≡ written w bytes xs output = ap (λ (x : Answer ℕ × List ℕ). x.1) (e ∙ fits) in
      (rw (size, all) (take_at (flat bytes xs) _ (w * length xs) (length-flat bytes w width xs)), size)
  wrote-block (Err refusal) after e = absurd (let s : refused (number refusal) ≡ gives (w * length xs) = ap (λ (x : Answer ℕ × List ℕ). x.0) (e ∙ fits) in cc)

-- The same of the rows of a form.
pub rows-block : (form : Form) (rows : List Row) (output : List ℕ) → length rows ≤ most_jobs → length output ≡ 64 → (wrote : Result ℕ Refusal) (after : List ℕ)
    → (counted wrote, after) ≡ put_rows form rows output → (take (result_unwrap_or wrote 0) after ≡ block_of form rows) × (result_unwrap_or wrote 0 ≤ 64)
rows-block JobForm rows output few long wrote after e =
    let count = length-map rows job_from in
    let w = wrote-block job_size job_bytes job-width (map job_from rows) output (omega (arith, count)) wrote after e in
    (w.0, omega (arith, w.1, count))
rows-block SettingForm rows output few long wrote after e =
    let count = length-map rows setting_from in
    let w = wrote-block setting_size setting_bytes setting-width (map setting_from rows) output (omega (arith, count)) wrote after e in
    (w.0, omega (arith, w.1, count))
rows-block KernelForm rows output few long wrote after e =
    let count = length-map rows kernel_from in
    let w = wrote-block kernel_size kernel_bytes kernel-width (map kernel_from rows) output (omega (arith, count)) wrote after e in
    (w.0, omega (arith, w.1, count))
rows-block Quanta rows output few long (Ok n) after e = let z : n ≡ 0 = let s : gives n ≡ gives 0 = ap (λ (x : Answer ℕ × List ℕ). x.0) e in cc in (rw z refl, omega (arith, z))
rows-block Quanta rows output few long (Err refusal) after e = (refl, omega arith)

-- ---- the text of a list, of a configuration or of kernel records has its block

pub list-block : (range : Option (ℕ × ℕ)) (jobs : List Job) → RangeFits range → AllFit JobFits jobs → length jobs ≤ most_jobs
    → (h : Handed) × (block_reading JobForm (read_text JobForm (list_text range jobs)) ≡ given h) × (h.block ≡ bytes_of jobs) × (h.range ≡ range)
list-block range jobs rf fit few =
    let b = list_back range jobs rf fit few in
    (record { block = block_of JobForm b.0.rows; at = b.0.at; range = b.0.range }, ap (block_reading JobForm) b.1, ap (flat job_bytes) b.2, b.3)

pub configuration-block : (settings : List Setting) → AllFit SettingFits settings → length settings ≤ most_jobs
    → (h : Handed) × (block_reading SettingForm (read_text SettingForm (configuration_text settings)) ≡ given h) × (h.block ≡ flat setting_bytes settings)
configuration-block settings fit few =
    let b = configuration-back settings fit few in
    (record { block = block_of SettingForm b.0.rows; at = b.0.at; range = b.0.range }, ap (block_reading SettingForm) b.1, ap (flat setting_bytes) b.2)

pub kernels-block : (kernels : List KernelRecord) → AllFit KernelFits kernels → length kernels ≤ most_jobs
    → (h : Handed) × (block_reading KernelForm (read_text KernelForm (kernels_text kernels)) ≡ given h) × (h.block ≡ flat kernel_bytes kernels)
kernels-block kernels fit few =
    let b = kernels-text-back kernels fit few in
    (record { block = block_of KernelForm b.0.rows; at = b.0.at; range = b.0.range }, ap (block_reading KernelForm) b.1, ap (flat kernel_bytes) b.2)
