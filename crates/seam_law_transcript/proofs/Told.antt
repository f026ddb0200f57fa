-- What a client was shown of its base part, and under which numbers, where the calls have ended and at the end of the round.
use Rattle.seam_law_transcript.proofs.Prelude.{◌≡◌, ℕ, ◌+◌, Bool, true, false, List, [], ◌∷◌, ◌++◌, map, length, Some, sym, ap, ◌∙◌, subst}
use Rattle.seam_law_transcript.proofs.Prelude.{refl, arith, append-nil, filter, if◌then◌else◌, range_with_len, Event, Call as CallData}
use Rattle.seam_law_transcript.proofs.Prelude.{Batch, Line, ClientText, Here, PartView, ProxyView, World, loaded, look_loaded, is_base}
use Rattle.seam_law_transcript.proofs.Prelude.{more_letter, Frame, here_at, entity_flow, home_of, proxy_of, lines_in, RunsTo}
use Rattle.seam_law_transcript.proofs.Prelude.{IsBetweenRounds, framed, MayBeLoaded, HasSettledPart, base_in, base_lines, lines_after}
use Rattle.seam_law_transcript.proofs.Prelude.{number_of_line, ShowsItsPart, letters_of-append, is_among, looks_leave_part, looks_show_part}
use Rattle.seam_call.specs.declared.shown.ClientText.TheVariants as text
use Rattle.seam_law_transcript.proofs.Numbered.{IsNumbered, still_numbered, loaded_numbered}

-- lines with the next numbers after so many, of which those about the base part are these
pub record IsShown (told : ℕ) (ls : List Line) (texts : List ClientText) : Type 0 where
  pub numbers : map number_of_line ls ≡ range_with_len (told + 1) (length ls)
  pub bases : base_lines ls ≡ texts

-- what is true of the lines of the calls of one that dies in the round, and of those of the whole round of one that does not
pub by_death : (P : List Line → Type 0) (called ended : List Line) (dies : Bool) → (dies ≡ true → P called) → (dies ≡ false → P ended) →
    P (if dies then called else ended)
by_death P called ended true first last = first refl
by_death P called ended false first last = last refl

-- the texts of lines about the base part are those of the rules
pub base_texts_are : (ls : List Line) → filter is_base (map (λ l. l.text) ls) ≡ base_lines ls
base_texts_are [] = refl
base_texts_are (l ∷ ls) = by l.text (base_texts_are ls)
  where
    by : (t : ClientText) → filter is_base (map (λ (x : Line). x.text) ls) ≡ base_lines ls →
        filter is_base (t ∷ map (λ (x : Line). x.text) ls) ≡ more_letter (base_in (record l { text = t })) (base_lines ls)
    by (text.Base v props) rest = ap (λ r. text.Base v props ∷ r) rest
    by (text.Shown x) rest = rest

no_calls : (ks : List CallData) → length ks ≡ 0 → ks ≡ []
no_calls [] none = refl
no_calls (k ∷ ks) none = absurd (omega (arith, none))

module _ (f : Frame) (w : World) (b : Batch) (may : MayBeLoaded f w b) (e told : ℕ)
    (was : (q : PartView) (y : ProxyView) → ((entity_flow e w).slot (home_of f e)).base.part ≡ Some q → q.proxy ≡ Some y → y.last ≡ told)
    (new : is_among e b.clients ≡ true → told ≡ 0) (p : PartView) (x : ProxyView)
    (there : ((entity_flow e (loaded w b)).slot (home_of f e)).base.part ≡ Some p) (has : p.proxy ≡ Some x) (called : World)
    (s : ShowsItsPart (here_at f (home_of f e)) p x ((entity_flow e called).slot (home_of f e)).base.part) where
  abbrev g : Frame
  g = framed f b

  abbrev here : Here
  here = here_at f (home_of f e)

  abbrev shown : World → List Line
  shown v = lines_in (proxy_of ((entity_flow e v).slot (home_of f e)).base.part)

  abbrev texts : List ClientText
  texts = base_lines x.lines ++ lines_after here p.ty p.state p.version s.calls

  so_far : IsNumbered told s.proxy
  so_far =
      still_numbered told here p x ((entity_flow e called).slot (home_of f e)).base.part
      (loaded_numbered f w b may e told was new p x there has) s

  bases_called : base_lines s.proxy.lines ≡ texts
  bases_called = ap base_lines s.shown ∙ letters_of-append base_in x.lines s.lines ∙ ap (λ l. base_lines x.lines ++ l) s.bases

  pub called_shown : IsShown told (shown called) texts
  called_shown =
      subst (λ ls. IsShown told ls texts) (sym (ap (λ o. lines_in (proxy_of o)) s.is ∙ ap lines_in s.has))
      (record { numbers = so_far.numbers; bases = bases_called })

  -- ---- one that is left when the witnesses look

  module _ (u v : World) (between : IsBetweenRounds g u) (es : List Event) (run : RunsTo (look_loaded u) es v)
      (ty : ℕ) (left : HasSettledPart g e ty u) (same : ((entity_flow e called).slot (home_of f e)).base.part ≡ Some left.part) where
    client : left.part.proxy ≡ Some s.proxy
    client = let is : s.part ≡ left.part = (let z = sym s.is ∙ same in cc) in sym (ap (λ (q : PartView). q.proxy) is) ∙ s.has

    abbrev looks : ShowsItsPart (here_at g (home_of g e)) left.part s.proxy ((entity_flow e v).slot (home_of g e)).base.part
    looks = looks_show_part g u between v es run e ty left s.proxy client

    none : looks.calls ≡ []
    none =
        no_calls looks.calls
        (let a = (looks_leave_part g u between v es run e ty left looks.part looks.is).version in
        let b = looks.version in omega (arith, a, b))

    nothing : base_lines looks.lines ≡ []
    nothing = looks.bases ∙ ap (lines_after (here_at g (home_of g e)) left.part.ty left.part.state left.part.version) none

    after : IsNumbered told looks.proxy
    after = still_numbered told (here_at g (home_of g e)) left.part s.proxy ((entity_flow e v).slot (home_of g e)).base.part so_far looks

    pub ended_shown : IsShown told (shown v) texts
    ended_shown =
        subst (λ ls. IsShown told ls texts) (sym (ap (λ o. lines_in (proxy_of o)) looks.is ∙ ap lines_in looks.has)) (record {
          numbers = after.numbers;
          bases = ap base_lines looks.shown ∙ letters_of-append base_in s.proxy.lines looks.lines
              ∙ ap (λ l. base_lines s.proxy.lines ++ l) nothing ∙ append-nil (base_lines s.proxy.lines) ∙ bases_called;
        })

    pub ended_last : (q : PartView) (z : ProxyView) → ((entity_flow e v).slot (home_of f e)).base.part ≡ Some q → q.proxy ≡ Some z →
        z.last ≡ told + length (shown v)
    ended_last q z at client_at =
        let part_is : looks.part ≡ q = (let a = sym looks.is ∙ at in cc) in
        let proxy_is : looks.proxy ≡ z =
        (let a = sym looks.has ∙ (ap (λ (o : PartView). o.proxy) part_is ∙ client_at) in cc) in
        ap (λ (o : ProxyView). o.last) (sym proxy_is) ∙ after.last
        ∙ ap (λ ls. told + length ls) (sym (ap (λ o. lines_in (proxy_of o)) looks.is ∙ ap lines_in looks.has))

    -- what it was shown in the looks, of which nothing is about the base part
    pub later_lines : (later : List Line) × (shown v ≡ shown called ++ later) × (base_lines later ≡ [])
    later_lines = (
      looks.lines,
      ap (λ o. lines_in (proxy_of o)) looks.is ∙ ap lines_in looks.has ∙ looks.shown
          ∙ ap (λ l. l ++ looks.lines) (sym (ap (λ o. lines_in (proxy_of o)) s.is ∙ ap lines_in s.has)),
      nothing,
    )
