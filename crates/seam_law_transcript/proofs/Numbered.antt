-- The lines of a client are numbered one after another, from round to round.
use Rattle.seam_law_transcript.proofs.Prelude.{◌≡◌, ℕ, zero, suc, ◌+◌, Bool, true, false, [], ◌∷◌, ◌++◌, map, length, Option, None, Some}
use Rattle.seam_law_transcript.proofs.Prelude.{refl, sym, ap, ◌∙◌, subst, arith, length-append, option_map, slice_get, AllByRecursion}
use Rattle.seam_law_transcript.proofs.Prelude.{range_with_len, map-append, properties_of, Batch, Here, has_any, PartView, ProxyView}
use Rattle.seam_law_transcript.proofs.Prelude.{line_if, base_text, World, new_proxy, proxy_begins, part_begins, loaded, slot_at, letters_of}
use Rattle.seam_law_transcript.proofs.Prelude.{Frame, here_at, has_of, has_none, entity_flow, home_of, shown_in, MayBeMade, MayBeLoaded}
use Rattle.seam_law_transcript.proofs.Prelude.{number_of_line, ShowsItsPart, Creation, nowhere, once, creation_of, middle, part_at}
use Rattle.seam_law_transcript.proofs.Prelude.{is_among, part_peopled, bare_peopled, PartFrom, part_there}
use Rattle.seam_defs.specs.declared.flags.Group.TheVariants as group
use Rattle.seam_node_steps.specs.Prelude.{properties}
use Rattle.seam_law_rounds.proofs.Attaching.{part_if}

-- a client that was told so many lines before has shown further ones under the next numbers
pub record IsNumbered (told : ℕ) (x : ProxyView) : Type 0 where
  pub numbers : map number_of_line x.lines ≡ range_with_len (told + 1) (length x.lines)
  pub last : x.last ≡ told + length x.lines

range_append : (a m n : ℕ) → range_with_len a m ++ range_with_len (a + m) n ≡ range_with_len a (m + n)
range_append a zero n =
    let same : a + 0 ≡ a = omega arith in
    let none : 0 + n ≡ n = omega arith in
    ap (λ b. range_with_len b n) same ∙ sym (ap (range_with_len a) none)
range_append a (suc m) n =
    let next : a + suc m ≡ (a + 1) + m = omega arith in
    let more : suc m + n ≡ suc (m + n) = omega arith in
    ap (λ b. a ∷ (range_with_len (a + 1) m ++ range_with_len b n)) next ∙ ap (λ l. a ∷ l) (range_append (a + 1) m n)
    ∙ sym (ap (range_with_len a) more)

-- it stays so
pub still_numbered : (told : ℕ) (h : Here) (p : PartView) (x : ProxyView) (o : Option PartView) → IsNumbered told x →
    (s : ShowsItsPart h p x o) → IsNumbered told s.proxy
still_numbered told h p x o is s =
    let n = length x.lines in
    let m = length s.lines in
    let long : length (x.lines ++ s.lines) ≡ n + m = length-append x.lines s.lines in
    let first : x.last + 1 ≡ (told + 1) + n = (let l = is.last in omega (arith, l)) in
    record {
      numbers =
          ap (map number_of_line) s.shown ∙ map-append number_of_line x.lines s.lines
          ∙ ap (λ l. l ++ map number_of_line s.lines) is.numbers ∙ ap (λ l. range_with_len (told + 1) n ++ l) s.numbers
          ∙ ap (λ a. range_with_len (told + 1) n ++ range_with_len a m) first ∙ range_append (told + 1) n m
          ∙ ap (range_with_len (told + 1)) (sym (ap length s.shown ∙ long));
      last = let a = s.last in let b = is.last in let c = ap length s.shown in omega (arith, a, b, c, long);
    }

-- ---- where a batch is loaded

-- and none of them shows a cell part
abbrev IsFresh : ℕ → ProxyView → Type 0
IsFresh told x = IsNumbered told x × (letters_of shown_in x.lines ≡ [])

some_is : {A : Type 0} {a b : A} → Some a ≡ Some b → a ≡ b
some_is h = cc

-- one that is attached
new_fresh : (due : Bool) (h : Here) (p : PartView) → IsFresh 0 (line_if due (base_text h p) new_proxy)
new_fresh true h p = (record { numbers = refl; last = refl }, refl)
new_fresh false h p = (record { numbers = refl; last = refl }, refl)

-- one that was there
old_fresh : (told : ℕ) (o : Option ProxyView) (x : ProxyView) → option_map proxy_begins o ≡ Some x →
    ((y : ProxyView) → o ≡ Some y → y.last ≡ told) → IsFresh told x
old_fresh told None x is was = absurd (let z = is in cc)
old_fresh told (Some y) x is was =
    let none : told + 0 ≡ told = omega arith in
    subst (IsFresh told) (some_is is) (record { numbers = refl; last = was y refl ∙ sym none }, refl)

old_part : (told : ℕ) (o : Option PartView) (p : PartView) (x : ProxyView) → option_map part_begins o ≡ Some p → p.proxy ≡ Some x →
    ((q : PartView) (y : ProxyView) → o ≡ Some q → q.proxy ≡ Some y → y.last ≡ told) → IsFresh told x
old_part told None p x is has was = absurd (let z = is in cc)
old_part told (Some q) p x is has was =
    old_fresh told q.proxy x (ap (λ (z : PartView). z.proxy) (some_is is) ∙ has) (λ y some. was q y refl some)

module _ (f : Frame) (w : World) (b : Batch) (may : MayBeLoaded f w b) (e told : ℕ)
    (was : (q : PartView) (y : ProxyView) → ((entity_flow e w).slot (home_of f e)).base.part ≡ Some q → q.proxy ≡ Some y → y.last ≡ told)
    (new : is_among e b.clients ≡ true → told ≡ 0) where
  abbrev home : ℕ
  home = home_of f e

  module _ (p : PartView) (x : ProxyView) (y : PartFrom f w b may.begin may.parts e home p) where
    kept : y.part.proxy ≡ Some x → Creation e b.creates → IsFresh told x
    kept has (nowhere others) =
        old_part told (part_at e y.node) y.part x (sym (part_peopled e b y.node others) ∙ y.was) has
        (λ q z at some. was q z (sym (ap (λ o. (slot_at (has_of e) has_none o).base.part) (sym y.there)) ∙ at) some)
    kept has (once first c later is at others more) =
        let made : MayBeMade f w c =
        middle (MayBeMade f w) first c later (subst (AllByRecursion (MayBeMade f w)) is may.begin.fits.creates) in
        let nothing : (j : ℕ) → (entity_flow e w).slot j ≡ has_none =
        subst (λ q. (j : ℕ) → (entity_flow q w).slot j ≡ has_none) at made.new in
        let none = ap (λ o. (slot_at (has_of e) has_none o).base.part) (sym y.there) ∙ ap (λ s. s.base.part) (nothing home) in
        absurd (let z = sym (bare_peopled e b y.node none y.part y.was) ∙ has in cc)

    by_join : (joins : Bool) → is_among e b.clients ≡ joins → part_if joins (here_at f home) y.part ≡ p → p.proxy ≡ Some x → IsFresh told x
    by_join true is made has =
        let h = here_at f home in
        let due = has_any (properties_of (properties h y.part.ty) group.BaseClient) in
        let q : PartView = record y.part { proxy = Some new_proxy } in
        let same : line_if due (base_text h q) new_proxy ≡ x = some_is (ap (λ (z : PartView). z.proxy) made ∙ has) in
        subst (λ n. IsFresh n x) (sym (new is)) (subst (IsFresh 0) same (new_fresh due h q))
    by_join false is made has = kept (ap (λ (z : PartView). z.proxy) made ∙ has) (creation_of e b.creates may.begin.fits.once)

  module _ (p : PartView) (x : ProxyView) (there : ((entity_flow e (loaded w b)).slot home).base.part ≡ Some p) (has : p.proxy ≡ Some x)
    where
      fresh : IsFresh told x
      fresh =
          let y = part_there f w b may.begin may.parts e home p (slice_get w.nodes home) refl there in
          by_join p x y (is_among e b.clients) refl y.is has

      pub loaded_numbered : IsNumbered told x
      loaded_numbered = fresh.0

      pub loaded_unshown : letters_of shown_in x.lines ≡ []
      loaded_unshown = fresh.1
