-- Prefixes of lists, and the lines that were read.
use Rattle.std.proofs.Common.{◌≡◌, ◌+◌, ◌<◌, ◌≤◌, inl, inr, ℕ, Bool, true, false, List, [], ◌∷◌, ◌++◌, refl, sym, ap, ◌∙◌}
use Rattle.std.proofs.Common.{arith, append_assoc, append-nil, length, take, drop, get_or, drop-cons, add-one}
use Rattle.std.proofs.lemmas.List.{take-append-drop}
use Rattle.seam_io.specs.States.{SourceState}
use Rattle.seam_io.specs.Lines.{Line, lines_of, whole_lines_of, lines_left, whole_left}
use Rattle.seam_io.specs.Reading.{Reader, Reading}
use Rattle.seam_world_ends.specs.Ends.{IsPrefix, IsProperPrefix, AreFirst, most_bytes}

-- a text of which so many bytes, and not all, were taken
pub taken_is_proper : (text : List ℕ) (n : ℕ) → n < length text → IsProperPrefix (take n text) text
taken_is_proper text n less = (
  get_or text n 0,
  drop (n + 1) text,
  sym (take-append-drop n text)
      ∙ ap (λ (rest : List ℕ). take n text ++ rest) (drop-cons text n 0 less ∙ rw add-one refl),
)

shorter_prefix : (read more all : List Line) → IsPrefix (read ++ more) all → IsPrefix read all
shorter_prefix read more all f = (more ++ f.0, f.1 ∙ append_assoc read more f.0)

-- the lines that were read are the first of the input
pub are_first : (began now : SourceState) (r : Reader) (given : List ℕ) (read more : List Line) → Reading began now r given (read ++ more) →
    AreFirst began now given read
are_first began now r given read more h = by_end r.ended refl
  where
    by_end : (b : Bool) → r.ended ≡ b → AreFirst began now given read
    by_end true e =
        let at = h.ended e in
        let all : lines_of given ≡ (read ++ more) ++ lines_left r.passing (r.held ++ []) =
        ap lines_of (sym (append-nil given)) ∙ h.lines [] (λ t. refl) in
        inr (at.1, at.0, shorter_prefix read more _ (lines_left r.passing (r.held ++ []), all))
    by_end false e =
        let all : whole_lines_of given ≡ (read ++ more) ++ whole_left r.passing (r.held ++ []) =
        ap whole_lines_of (sym (append-nil given)) ∙ h.whole e [] in
        inl (shorter_prefix read more _ (whole_left r.passing (r.held ++ []), all))

-- at most as many bytes were taken as may be
pub within_limit : {began now : SourceState} {r : Reader} {given : List ℕ} {read : List Line} → Reading began now r given read →
    r.limit ≡ most_bytes → length given ≤ most_bytes
within_limit {given = given} h limit = let count = h.count in let within = h.within in omega arith
