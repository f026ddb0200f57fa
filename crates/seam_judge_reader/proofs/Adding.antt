-- A round with what one line more says.
use Rattle.std.proofs.Common.{◌≡◌, ℕ, List, [], ◌∷◌, ◌++◌, Option, Some, None, option_map, refl, sym, ◌∙◌, ap, subst, All, get_or, drop}
use Rattle.std.proofs.lemmas.List.Elements.{All-push}
use Rattle.seam_value.specs.Values.{decimal_of}
use Rattle.seam_tree.specs.declared.cut.Cut.{Cut}
use Rattle.seam_tree.specs.Division.{Division}
use Rattle.seam_tree.specs.Change.{CanCut}
use Rattle.seam_defs.specs.declared.flags.Part.TheVariants as part
use Rattle.seam_defs.specs.declared.types.TypeDef.{TypeDef}
use Rattle.seam_rule_rounds.specs.Prelude.{BaseLine, Book, ClientLine, DoneLine, GhostLine, Header, HomeLine, RoundData}
use Rattle.seam_judge_data.specs.Standings.{standing_of}
use Rattle.seam_judge_data.specs.declared.standing.Standing.{Standing}
use Rattle.seam_law_texts.specs.declared.kinds.Kind.{Kind}
use Rattle.seam_law_texts.specs.declared.kinds.Kind.TheVariants.{Begin, Did, Dob, Home, Base, Ghost, To, Bound}
use Rattle.seam_law_texts.specs.TextLines.{LineData, base_words, bound_words, client_words, data_words, done_words, ghost_words, home_words}
use Rattle.seam_law_texts.specs.TextLines.{with_data, word_of}
use Rattle.seam_law_texts.specs.Forms.{HasFormedLines, IsBase, IsBound, IsDone, IsForm, IsGhost, IsHome, IsLong, IsTo}
use Rattle.seam_judge_reader.specs.Cuts.{CanSay}

-- words of a kind lead from a round to a new one
abbrev pub Tells : List TypeDef → Book → (r new : RoundData) → List (List ℕ) → Kind → Type 0
Tells defs b r new ws k =
    (x : LineData k) → IsForm defs b k x → CanSay r.bounds k x → ws ≡ data_words defs k x → new ≡ with_data r k x

with_last : {X : Type 0} (P : X → Type 0) (xs new : List X) (x : X) → new ≡ xs ++ x ∷ [] → P x → All P xs → All P new
with_last P xs new x is here all = subst (All P) (sym is) (All-push P xs x all here)

one_more : {X : Type 0} (xs ys new : List X) (l x : X) → xs ≡ ys → new ≡ xs ++ l ∷ [] → l ≡ x → new ≡ ys ++ x ∷ []
one_more xs ys new l x same is line = is ∙ (λ i. same i ++ line i ∷ [])

some_is : (k m : Kind) → Some k ≡ Some m → k ≡ m
some_is k m is = cc

-- v is the round before
module _ (defs : List TypeDef) (b : Book) (r v : RoundData) (is : v ≡ r) where
  at_kind : (new : RoundData) (ws : List (List ℕ)) (k kind : Kind) → kind ≡ k → Tells defs b r new ws k → Tells defs b r new ws kind
  at_kind new ws k kind same tells = subst (Tells defs b r new ws) (sym same) tells

  pub line_tells : (new : RoundData) (ws : List (List ℕ)) (k kind : Kind) → Some kind ≡ Some k →
      Tells defs b r new (drop 1 ws) kind → (x : LineData k) → IsForm defs b k x → CanSay r.bounds k x →
      ws ≡ word_of k ∷ data_words defs k x → new ≡ with_data r k x
  line_tells new ws k kind same tells x form can words =
      at_kind new (drop 1 ws) kind k (sym (some_is kind k same)) tells x form can (ap (drop 1) words)

  pub begin_tells : (kind : Kind) → kind ≡ Begin → (ws : List (List ℕ)) (n : ℕ) →
      ((m : ℕ) → IsLong m → get_or ws 0 [] ≡ decimal_of m → n ≡ m) → Tells defs b r (record v { number = n }) ws kind
  begin_tells kind same ws n told =
      at_kind (record v { number = n }) ws Begin kind same (λ x form can words.
      let number : n ≡ x = told x form (ap (λ (xs : List (List ℕ)). get_or xs 0 []) words) in
      λ i. let q : RoundData = is i in record q { number = number i })

  pub did_tells : (kind : Kind) → kind ≡ Did → (ws : List (List ℕ)) (new : List DoneLine) (l : DoneLine) → new ≡ v.did ++ l ∷ [] →
      ((m : DoneLine) → IsDone defs b part.Cell m → ws ≡ done_words defs m → l ≡ m) → Tells defs b r (record v { did = new }) ws kind
  did_tells kind same ws new l more told =
      at_kind (record v { did = new }) ws Did kind same (λ x form can words.
      let lines : new ≡ r.did ++ x ∷ [] = one_more v.did r.did new l x (ap (λ (q : RoundData). q.did) is) more (told x form words) in
      λ i. let q : RoundData = is i in record q { did = lines i })

  pub dob_tells : (kind : Kind) → kind ≡ Dob → (ws : List (List ℕ)) (new : List DoneLine) (l : DoneLine) → new ≡ v.dob ++ l ∷ [] →
      ((m : DoneLine) → IsDone defs b part.Base m → ws ≡ done_words defs m → l ≡ m) → Tells defs b r (record v { dob = new }) ws kind
  dob_tells kind same ws new l more told =
      at_kind (record v { dob = new }) ws Dob kind same (λ x form can words.
      let lines : new ≡ r.dob ++ x ∷ [] = one_more v.dob r.dob new l x (ap (λ (q : RoundData). q.dob) is) more (told x form words) in
      λ i. let q : RoundData = is i in record q { dob = lines i })

  pub home_tells : (kind : Kind) → kind ≡ Home → (ws : List (List ℕ)) (new : List HomeLine) (l : HomeLine) →
      new ≡ v.homes ++ l ∷ [] → ((m : HomeLine) → IsHome defs b m → ws ≡ home_words defs m → l ≡ m) →
      Tells defs b r (record v { homes = new }) ws kind
  home_tells kind same ws new l more told =
      at_kind (record v { homes = new }) ws Home kind same (λ x form can words.
      let lines : new ≡ r.homes ++ x ∷ [] =
      one_more v.homes r.homes new l x (ap (λ (q : RoundData). q.homes) is) more (told x form words) in
      λ i. let q : RoundData = is i in record q { homes = lines i })

  pub base_tells : (kind : Kind) → kind ≡ Base → (ws : List (List ℕ)) (new : List BaseLine) (l : BaseLine) →
      new ≡ v.bases ++ l ∷ [] → ((m : BaseLine) → IsBase defs b m → ws ≡ base_words defs m → l ≡ m) →
      Tells defs b r (record v { bases = new }) ws kind
  base_tells kind same ws new l more told =
      at_kind (record v { bases = new }) ws Base kind same (λ x form can words.
      let lines : new ≡ r.bases ++ x ∷ [] =
      one_more v.bases r.bases new l x (ap (λ (q : RoundData). q.bases) is) more (told x form words) in
      λ i. let q : RoundData = is i in record q { bases = lines i })

  pub ghost_tells : (kind : Kind) → kind ≡ Ghost → (ws : List (List ℕ)) (new : List GhostLine) (l : GhostLine) →
      new ≡ v.ghosts ++ l ∷ [] → ((m : GhostLine) → IsGhost m → ws ≡ ghost_words m → l ≡ m) →
      Tells defs b r (record v { ghosts = new }) ws kind
  ghost_tells kind same ws new l more told =
      at_kind (record v { ghosts = new }) ws Ghost kind same (λ x form can words.
      let lines : new ≡ r.ghosts ++ x ∷ [] =
      one_more v.ghosts r.ghosts new l x (ap (λ (q : RoundData). q.ghosts) is) more (told x form words) in
      λ i. let q : RoundData = is i in record q { ghosts = lines i })

  pub to_tells : (kind : Kind) → kind ≡ To → (ws : List (List ℕ)) (new : List ClientLine) (l : ClientLine) →
      new ≡ v.shown ++ l ∷ [] → ((m : ClientLine) → IsTo defs b m → ws ≡ client_words defs m → l ≡ m) →
      Tells defs b r (record v { shown = new }) ws kind
  to_tells kind same ws new l more told =
      at_kind (record v { shown = new }) ws To kind same (λ x form can words.
      let lines : new ≡ r.shown ++ x ∷ [] =
      one_more v.shown r.shown new l x (ap (λ (q : RoundData). q.shown) is) more (told x form words) in
      λ i. let q : RoundData = is i in record q { shown = lines i })

  pub bound_tells : (kind : Kind) → kind ≡ Bound → (ws : List (List ℕ)) (new : Option Division) →
      ((x : ℕ × Cut) → IsBound b x → ((t : Division) → v.bounds ≡ Some t → CanCut t x.1.cell x.1.boundary) → ws ≡ bound_words x →
      new ≡ option_map (λ (t : Division). record { size = t.size; cuts = t.cuts ++ x.1 ∷ [] }) v.bounds) →
      Tells defs b r (record v { bounds = new }) ws kind
  bound_tells kind same ws new told =
      at_kind (record v { bounds = new }) ws Bound kind same (λ x form can words.
      let before : v.bounds ≡ r.bounds = ap (λ (q : RoundData). q.bounds) is in
      let made = told x form (λ t at. can t (sym before ∙ at)) words in
      λ i. let q : RoundData = is i in
      record q {
        bounds =
            (made ∙ ap (option_map (λ (t : Division). record { size = t.size; cuts = t.cuts ++ x.1 ∷ [] })) before) i;
      })

  -- ---- the lines stay in form

  pub did_formed : (new : List DoneLine) (l : DoneLine) → new ≡ v.did ++ l ∷ [] → IsDone defs b part.Cell l →
      HasFormedLines defs b r → HasFormedLines defs b (record v { did = new })
  did_formed new l more form formed =
      let was : HasFormedLines defs b v = subst (HasFormedLines defs b) (sym is) formed in
      record {
        number = was.number;
        did = with_last (IsDone defs b part.Cell) v.did new l more form was.did;
        dob = was.dob;
        homes = was.homes;
        bases = was.bases;
        ghosts = was.ghosts;
        shown = was.shown;
      }

  pub dob_formed : (new : List DoneLine) (l : DoneLine) → new ≡ v.dob ++ l ∷ [] → IsDone defs b part.Base l →
      HasFormedLines defs b r → HasFormedLines defs b (record v { dob = new })
  dob_formed new l more form formed =
      let was : HasFormedLines defs b v = subst (HasFormedLines defs b) (sym is) formed in
      record {
        number = was.number;
        did = was.did;
        dob = with_last (IsDone defs b part.Base) v.dob new l more form was.dob;
        homes = was.homes;
        bases = was.bases;
        ghosts = was.ghosts;
        shown = was.shown;
      }

  pub home_formed : (new : List HomeLine) (l : HomeLine) → new ≡ v.homes ++ l ∷ [] → IsHome defs b l →
      HasFormedLines defs b r → HasFormedLines defs b (record v { homes = new })
  home_formed new l more form formed =
      let was : HasFormedLines defs b v = subst (HasFormedLines defs b) (sym is) formed in
      record {
        number = was.number;
        did = was.did;
        dob = was.dob;
        homes = with_last (IsHome defs b) v.homes new l more form was.homes;
        bases = was.bases;
        ghosts = was.ghosts;
        shown = was.shown;
      }

  pub base_formed : (new : List BaseLine) (l : BaseLine) → new ≡ v.bases ++ l ∷ [] → IsBase defs b l →
      HasFormedLines defs b r → HasFormedLines defs b (record v { bases = new })
  base_formed new l more form formed =
      let was : HasFormedLines defs b v = subst (HasFormedLines defs b) (sym is) formed in
      record {
        number = was.number;
        did = was.did;
        dob = was.dob;
        homes = was.homes;
        bases = with_last (IsBase defs b) v.bases new l more form was.bases;
        ghosts = was.ghosts;
        shown = was.shown;
      }

  pub to_formed : (new : List ClientLine) (l : ClientLine) → new ≡ v.shown ++ l ∷ [] → IsTo defs b l →
      HasFormedLines defs b r → HasFormedLines defs b (record v { shown = new })
  to_formed new l more form formed =
      let was : HasFormedLines defs b v = subst (HasFormedLines defs b) (sym is) formed in
      record {
        number = was.number;
        did = was.did;
        dob = was.dob;
        homes = was.homes;
        bases = was.bases;
        ghosts = was.ghosts;
        shown = with_last (IsTo defs b) v.shown new l more form was.shown;
      }

-- ---- of a header and a standing that are the same

-- the words of a line lead from a round to a new one
abbrev pub Adds : Header → Standing → (r new : RoundData) → List (List ℕ) → Type 0
Adds h s r new ws =
    (k : Kind) (x : LineData k) → IsForm h.defs (standing_of s).book k x → CanSay r.bounds k x → ws ≡ word_of k ∷ data_words h.defs k x →
    new ≡ with_data r k x

pub same_adds : (h g : Header) (s t : Standing) (r new : RoundData) (ws : List (List ℕ)) → h ≡ g → s ≡ t → Adds h s r new ws →
    Adds g t r new ws
same_adds h g s t r new ws header standing adds =
    subst (λ (u : Standing). Adds g u r new ws) standing (subst (λ (k : Header). Adds k s r new ws) header adds)

abbrev pub KeepsForm : Header → Standing → (r new : RoundData) → Type 0
KeepsForm h s r new = HasFormedLines h.defs (standing_of s).book r → HasFormedLines h.defs (standing_of s).book new

pub same_keeps : (h g : Header) (s t : Standing) (r new : RoundData) → h ≡ g → s ≡ t → KeepsForm h s r new → KeepsForm g t r new
same_keeps h g s t r new header standing keeps =
    subst (λ (u : Standing). KeepsForm g u r new) standing (subst (λ (k : Header). KeepsForm k s r new) header keeps)
