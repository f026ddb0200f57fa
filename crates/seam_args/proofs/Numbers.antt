-- What the getters of the matches read, by the rows.
use Rattle.std.proofs.Common.{◌≡◌, ◌↔◌, Bool, true, false, ◌∙◌, ◌<◌, ap, sym, subst, refl, ℕ, List, Option, Some, None, option_map}
use Rattle.std.proofs.Common.{option_and_then, ◌^◌}
use Rattle.std.specs.Prelude.{Result, Ok, find}
use Rattle.std.specs.Str.{bytes_eq}
use Rattle.std.specs.Str.Parse.{ParsesUnsigned}
use Rattle.clap.specs.Words.{ReadsOne, Text, matched_of, one_of, one_text, rows_of, without_minus}
use Rattle.clap.specs.Facts.{Entry}
use Rattle.clap.specs.Walk.{row_of}
use Rattle.clap.specs.declared.parser.matches.Found.{Found}
use Rattle.clap.specs.declared.parser.matches.ValueSource.{ValueSource}
use Rattle.clap.specs.declared.parser.matches.ValueSource.TheVariants.{CommandLine, DefaultValue}
use Rattle.std.specs.Option.{option_eq}
use Rattle.clap.proofs.CallerReads.{signed_reads}
use Rattle.clap.proofs.WalkLemmas.{find_row, one_text-rows}
use Rattle.seam_args.specs.Words.{IsUpTo, number_of}
use Rattle.seam_args.specs.Reading.{HasNumber}

-- the number of an option is read, lies in its range, and is the one that the text of its row spells
pub number_is_read : (E : Type 0) (G : List ℕ → Result ℕ E → Type 0) (f : Found) (id : Text) (most : ℕ) (r : Option ℕ)
    → HasNumber f id most → most < 2 ^ 32
    → ((u : List ℕ) (x : Result ℕ E) → G u x → ParsesUnsigned 32 10 u x) → ((t : Text) → one_text f id ≡ Some t → ReadsOne G t r)
    → (n : ℕ) × (r ≡ Some n) × IsUpTo most n × (option_map number_of (one_of id (rows_of f)) ≡ Some n)
number_is_read E G f id most r has fits only reads =
    let read = reads (without_minus has.text) has.is in
    let got = signed_reads E G 32 1 most has.text r read only fits has.number in
    let given : ReadsOne G (without_minus has.text) (Some got.0) =
    subst (λ (o : Option ℕ). ReadsOne G (without_minus has.text) o) got.1 read in
    let value : got.0 ≡ number_of (without_minus has.text) = (only (without_minus has.text) (Ok got.0) given).1 in
    (got.0, got.1, (got.2, got.3), ap (option_map number_of) (sym (one_text-rows f id) ∙ has.is) ∙ ap Some (sym value))

-- where there is no text, the row has none
pub no_number_is_read : (f : Found) (id : Text) → one_text f id ≡ None → option_map number_of (one_of id (rows_of f)) ≡ None
no_number_is_read f id none = ap (option_map number_of) (sym (one_text-rows f id) ∙ none)

-- the source of an entry is that of its row
pub source_is_of_row : (f : Found) (id : Text)
    → option_and_then (λ r. r.source) (find (λ r. bytes_eq r.id id) (rows_of f)) ≡ option_and_then (λ a. a.source) (matched_of f id)
source_is_of_row f id = ap (option_and_then (λ r. r.source)) (find_row f.entries.items id)
    ∙ go (find (λ e. bytes_eq e.0.now id) f.entries.items)
  where
    go : (o : Option Entry) → option_and_then (λ r. r.source) (option_map row_of o)
        ≡ option_and_then (λ a. a.source) (option_map (λ e. e.1) o)
    go None = refl
    go (Some e) = refl

-- a test whether the words are the source
pub words_are_tested : (same : ValueSource → ValueSource → Bool)
    → same CommandLine CommandLine ≡ true → same DefaultValue CommandLine ≡ false
    → (o : Option ValueSource) (b : Bool) → b ≡ option_eq same o (Some CommandLine) → (o ≡ Some CommandLine) ↔ (b ≡ true)
words_are_tested same here elsewhere None b is = (λ e. cc, λ e. cc)
words_are_tested same here elsewhere (Some CommandLine) b is = (λ e. is ∙ here, λ e. refl)
words_are_tested same here elsewhere (Some DefaultValue) b is = (λ e. cc, λ e. cc)
