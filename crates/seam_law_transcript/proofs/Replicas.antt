-- What clients show is what they were told in all.
use Rattle.seam_law_transcript.proofs.Prelude.{◌≡◌, ℕ, Bool, true, false, List, [], ◌∷◌, ◌++◌, Some, refl, sym, ap, ◌∙◌, subst, IsTrue}
use Rattle.seam_law_transcript.proofs.Prelude.{is_some, not, ◌&&◌, if◌then◌else◌, list_any, filter_map-append, fold-append, Create, Line}
use Rattle.seam_law_transcript.proofs.Prelude.{ClientText, RealView, WitnessView, World, Book, entries, created_as, joins, destroys}
use Rattle.seam_law_transcript.proofs.Prelude.{is_shown, ClientReplica, after_shown, after_all_shown, after_lines, shown_by, shown_by_lines}
use Rattle.seam_law_transcript.proofs.Prelude.{letters_of, Frame, shown_in, real_at, FitsWitness, ClientsFit}
use Rattle.seam_call.specs.declared.shown.ClientText.TheVariants as text

-- the two ways to read what lines show of cell parts
pub shown_is : (ls : List Line) → shown_by_lines ls ≡ letters_of shown_in ls
shown_is [] = refl
shown_is (l ∷ ls) = by l.text (shown_is ls)
  where
    by : (t : ClientText) → shown_by_lines ls ≡ letters_of shown_in ls →
        shown_by_lines (record l { text = t } ∷ ls) ≡ letters_of shown_in (record l { text = t } ∷ ls)
    by (text.Shown x) rest = ap (λ r. x ∷ r) rest
    by (text.Base v props) rest = rest

-- after some lines and more
pub after_more : (c : ClientReplica) (xs ys : List Line) →
    after_lines c (xs ++ ys) ≡ after_all_shown (after_lines c xs) (letters_of shown_in ys)
after_more c xs ys =
    ap (after_all_shown c) (filter_map-append (λ l. shown_by l.text) xs ys)
    ∙ fold-append after_shown c (shown_by_lines xs) (shown_by_lines ys)
    ∙ ap (after_all_shown (after_lines c xs)) (shown_is ys)

-- clients fit by what those show that have a witness
pub fit_by : (f : Frame) (old now : ℕ → ClientReplica) (w : World) → ClientsFit f old w →
    ((e k : ℕ) (r : RealView) → real_at e w k ≡ Some r → (x : WitnessView) → r.witness ≡ Some x → old e ≡ now e) → ClientsFit f now w
fit_by f old now w fit same = record {
  each = λ e k r at x has. subst (FitsWitness f w r x) (same e k r at x has) (fit.each e k r at x has);
}

-- an entity that lives and was given a client has one in the round
pub is_shown_by : (b : Book) (e : ℕ) (c : Create) → created_as b e ≡ Some c → list_any (joins e) (entries b) ≡ true →
    list_any (destroys e) b.past ≡ false → IsTrue (is_shown b e)
is_shown_by b e c made joined alive = (λ i. (is_some (made i) && joined i) && not (alive i))

-- as a batch is loaded, a client shows what it did, also a new one, which was told nothing
pub begun_by : (new : Bool) (fresh was : ClientReplica) → (new ≡ true → was ≡ fresh) → (if new then fresh else was) ≡ was
begun_by true fresh was same = sym (same refl)
begun_by false fresh was same = refl
