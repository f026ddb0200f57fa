-- From the nodes that were taken apart to the run of their net.
use Rattle.std.proofs.Common.{◌≡◌, ℕ, zero, suc, ◌+◌, ◌*◌, ◌<◌, ◌≤◌, Bool, true, false, List, [], ◌∷◌, ◌++◌, length, Option, None, Some}
use Rattle.std.proofs.Common.{get_or, drop, map, refl, sym, ap, ◌∙◌, subst, arith, inl, inr, append_assoc}
use Rattle.std.specs.Prelude.{slice_get, IfOk, Result, Ok, Err}
use Rattle.std.proofs.lemmas.Bool.{cases_eq}
use Rattle.std.proofs.lemmas.Bool.Decides.{leb_tells}
use Rattle.std.proofs.lemmas.List.{length-map, append-nil, get_or_past}
use Rattle.std.proofs.Math.Seq.{drop-append_seam}
use Rattle.std.proofs.lemmas.Option.{slice_get_within, slice_get-get_or, get_or_from_slice_get}
use Rattle.seam_machine.specs.Views.{Stepped, NetView, PartsView}
use Rattle.seam_machine.specs.Nets.{link, ArePeers, AreParts, LeadsTo, IsQuiet, enabled, is_ready}
use Rattle.seam_machine.specs.Sends.{items_to}
use Rattle.seam_machine.specs.declared.machines.Input.{Input}
use Rattle.seam_machine.specs.declared.machines.Input.TheVariants.{Task}
use Rattle.seam_machine.specs.declared.machines.Event.{Event}
use Rattle.seam_machine.proofs.Parts.{parts_place}
use Rattle.seam_link.specs.Ends.{InView, OutView}
use Rattle.seam_stamp.specs.declared.Letter.{Letter}
use Rattle.seam_stamp.specs.declared.Stamped.{Stamped}
use Rattle.seam_stamp.specs.Logs.{IsLogFrom, AreLogs, by_node}
use Rattle.seam_stamp.proofs.Orders.{by_node_own, by_node_other}
use Rattle.seam_stamp.specs.Acts.{Act, received, state_after, sends, Legal, items, entries, event_by, input_by}
use Rattle.seam_stamp.specs.Joined.{Did, Joined, IsRebuilt, left_of}
use Rattle.seam_stamp.proofs.Whole.{logs_are_run}
use Rattle.seam_logged.proofs.Replay.{no_acts}
use Rattle.seam_logged.specs.Logs.{LoggedView, EndsView, Root, taken, put, in_rings, out_rings}
use Rattle.seam_logged.specs.Mesh.{AreFull, AreLinked, ArePaired, IsFilled, IsCell, at_start}
use Rattle.seam_workers.specs.Seats.{IsRun, AreRuns, roots_of, HasEnds}
use Rattle.seam_workers.specs.Rejoined.{IsRejoined, HasEventOf}
use Rattle.seam_workers.proofs.Lists.{all_get}

module _ {X : Type 0} where
  pub exists_at : (xs : List X) (k : ℕ) → k < length xs → (x : X) × (slice_get xs k ≡ Some x)
  exists_at [] k lt = absurd (omega arith)
  exists_at (x ∷ xs) zero lt = (x, refl)
  exists_at (x ∷ xs) (suc k) lt = exists_at xs k (omega (arith, lt))

  same_at : (xs : List X) (k : ℕ) (x y : X) → slice_get xs k ≡ Some x → slice_get xs k ≡ Some y → x ≡ y
  same_at xs k x y e f = cc (sym e ∙ f)

map_at : {A B : Type 0} (f : A → B) (xs : List A) (k : ℕ) (x : A) → slice_get xs k ≡ Some x → slice_get (map f xs) k ≡ Some (f x)
map_at f [] k x e = absurd (cc e)
map_at f (y ∷ xs) zero x e = let same : y ≡ x = cc in ap (λ z. Some (f z)) same
map_at f (y ∷ xs) (suc k) x e = map_at f xs k x e

map_back : {A B : Type 0} (f : A → B) (xs : List A) (k : ℕ) (y : B) → slice_get (map f xs) k ≡ Some y →
    (x : A) × (slice_get xs k ≡ Some x) × (y ≡ f x)
map_back f [] k y e = absurd (cc e)
map_back f (x ∷ xs) zero y e = (x, refl, cc)
map_back f (x ∷ xs) (suc k) y e = map_back f xs k y e

map_read : {A B : Type 0} (f : A → B) (xs : List A) (k : ℕ) (x : A) (d : B) → slice_get xs k ≡ Some x → get_or (map f xs) k d ≡ f x
map_read f xs k x d e = get_or_from_slice_get (map f xs) k (f x) d (map_at f xs k x e)

items_at_start : {T : Type 0} (xs : List T) → items (at_start xs) ≡ xs
items_at_start [] = refl
items_at_start (x ∷ xs) = ap (λ l. x ∷ l) (items_at_start xs)

module _ {T H : Type 0} where
  taken_at : (is : List (InView T H)) (a : ℕ) (i : InView T H) → slice_get is a ≡ Some i → taken is a ≡ i.taken
  taken_at [] a i e = absurd (cc e)
  taken_at (j ∷ is) zero i e = let same : j ≡ i = cc in ap (λ (v : InView T H). v.taken) same
  taken_at (j ∷ is) (suc a) i e = taken_at is a i e

  put_at : (os : List (OutView T H)) (b : ℕ) (o : OutView T H) → slice_get os b ≡ Some o → put os b ≡ o.put
  put_at [] b o e = absurd (cc e)
  put_at (p ∷ os) zero o e = let same : p ≡ o = cc in ap (λ (v : OutView T H). v.put) same
  put_at (p ∷ os) (suc b) o e = put_at os b o e

  -- ends at one place of lists with the same rings have one ring
  in_ring : (xs ys : List (InView T H)) (k : ℕ) (x y : InView T H) → in_rings xs ≡ in_rings ys → slice_get xs k ≡ Some x →
      slice_get ys k ≡ Some y → x.ring ≡ y.ring
  in_ring xs ys k x y e p q =
      same_at (in_rings ys) k x.ring y.ring (ap (λ l. slice_get l k) (sym e) ∙ map_at (λ (v : InView T H). v.ring) xs k x p)
      (map_at (λ (v : InView T H). v.ring) ys k y q)

  out_ring : (xs ys : List (OutView T H)) (k : ℕ) (x y : OutView T H) → out_rings xs ≡ out_rings ys → slice_get xs k ≡ Some x →
      slice_get ys k ≡ Some y → x.ring ≡ y.ring
  out_ring xs ys k x y e p q =
      same_at (out_rings ys) k x.ring y.ring (ap (λ l. slice_get l k) (sym e) ∙ map_at (λ (v : OutView T H). v.ring) xs k x p)
      (map_at (λ (v : OutView T H). v.ring) ys k y q)

  in_many : (xs ys : List (InView T H)) → in_rings xs ≡ in_rings ys → length xs ≡ length ys
  in_many xs ys e = sym (length-map xs (λ (v : InView T H). v.ring)) ∙ (ap length e ∙ length-map ys (λ (v : InView T H). v.ring))

  out_many : (xs ys : List (OutView T H)) → out_rings xs ≡ out_rings ys → length xs ≡ length ys
  out_many xs ys e = sym (length-map xs (λ (v : OutView T H). v.ring)) ∙ (ap length e ∙ length-map ys (λ (v : OutView T H). v.ring))

root_at : {N M H : Type 0} (ns : List N) (es : List (EndsView M H)) (k : ℕ) (r : Root N M H) → slice_get (roots_of ns es) k ≡ Some r →
    (slice_get ns k ≡ Some r.start) × (slice_get es k ≡ Some r.first)
root_at [] es k r e = absurd (cc e)
root_at (n ∷ ns) [] k r e = absurd (cc e)
root_at (n ∷ ns) (f ∷ es) zero r e =
    let same : record { start = n; first = f } ≡ r = cc in
    (ap (λ (v : Root _ _ _). Some v.start) same, ap (λ (v : Root _ _ _). Some v.first) same)
root_at (n ∷ ns) (f ∷ es) (suc k) r e = root_at ns es k r e

-- the log of legal steps
legal_log : {N M : Type 0} (has_work : N → Bool) (steps : N → Input M → Stepped N M) (n me t last : ℕ) (s : N) (ds : List (Act M)) →
    t ≤ last + 1 → Legal has_work steps n last s ds → IsLogFrom me t (entries me ds)
legal_log has_work steps n me t last s [] le h = tt
legal_log has_work steps n me t last s (d ∷ ds) le h = (
  refl,
  omega (arith, le, h.0),
  legal_log has_work steps n me (d.stamp + 1) d.stamp (steps s (input_by d.took)).state ds (omega arith)
      h.4,
)

first_node : {M : Type 0} (me : ℕ) (ds : List (Act M)) (x : Stamped Event) (xs : List (Stamped Event)) → x ∷ xs ≡ entries me ds →
    x.item.node ≡ me
first_node me [] x xs e = absurd (cc e)
first_node me (d ∷ ds) x xs e =
    let same : x ≡ record { stamp = d.stamp; node = me; item = event_by me d } = cc in
    ap (λ (y : Stamped Event). y.item.node) same

-- an entry of a merge is at some place
entry_at : (k : ℕ) (es : List (Stamped Event)) (x : Stamped Event) (xs : List (Stamped Event)) → by_node k es ≡ x ∷ xs →
    (i : ℕ) × (slice_get es i ≡ Some x)
entry_at k [] x xs e = absurd (cc e)
entry_at k (y ∷ es) x xs e = elim (cases_eq y.node k) [
  | inl h ↦ (0, (let same : y ≡ x = cc (sym (by_node_own k y es h) ∙ e) in ap Some same))
  | inr h ↦ (let r = entry_at k es x xs (sym (by_node_other k y es h) ∙ e) in (suc r.0, r.1))
]

module _ {N M H : Type 0} (has_work : N → Bool) (steps : N → Input M → Stepped N M) (peers : N → ℕ) (n : ℕ) (w : NetView N M)
    (p : PartsView N M) (parts : AreParts p w) (count : length p.nodes ≡ n) (ends : List (EndsView M H)) (full : AreFull n ends)
    (linked : AreLinked n p.links ends) (done : List (LoggedView N M H)) (many : length done ≡ n)
    (runs : AreRuns has_work steps peers (roots_of p.nodes ends) done) where
  -- what is known of node k
  pub record NodeGivenBack (k : ℕ) : Type 0 where
    pub node : LoggedView N M H
    pub at : slice_get done k ≡ Some node
    pub run : IsRun has_work steps peers (roots_of p.nodes ends) k node
    pub starts : slice_get p.nodes k ≡ Some run.replay.root.start
    pub first : slice_get ends k ≡ Some run.replay.root.first

  known_by : (k : ℕ) (v : LoggedView N M H) → slice_get done k ≡ Some v → NodeGivenBack k
  known_by k v at =
      let run = runs k v at in
      let root = root_at p.nodes ends k run.replay.root (ap (slice_get (roots_of p.nodes ends)) (sym run.me_is) ∙ run.replay.named) in
      record { node = v; at = at; run = run; starts = root.0; first = root.1 }

  known : (k : ℕ) → k < n → NodeGivenBack k
  known k lt = let h = exists_at done k (omega (arith, lt, many)) in known_by k h.0 h.1

  ins_full : (k : ℕ) (v : LoggedView N M H) → slice_get done k ≡ Some v → length v.ends.ins ≡ n
  unfolding known_by
  ins_full k v at =
      let h = known_by k v at in
      in_many v.ends.ins h.run.replay.root.first.ins h.run.replay.ins_same ∙ full.ins k h.run.replay.root.first h.first

  outs_full : (k : ℕ) (v : LoggedView N M H) → slice_get done k ≡ Some v → length v.ends.outs ≡ n
  unfolding known_by
  outs_full k v at =
      let h = known_by k v at in
      out_many v.ends.outs h.run.replay.root.first.outs h.run.replay.outs_same ∙ full.outs k h.run.replay.root.first h.first

  peers_are : (k : ℕ) (v : LoggedView N M H) → slice_get done k ≡ Some v → peers v.node ≡ n
  unfolding known_by
  peers_are k v at = let h = known_by k v at in sym h.run.replay.ins_many ∙ ins_full k v at

  pub ends_full : AreFull (length (map (λ (v : LoggedView N M H). v.ends) done)) (map (λ (v : LoggedView N M H). v.ends) done)
  ends_full =
      let all : length (map (λ (v : LoggedView N M H). v.ends) done) ≡ n = length-map done (λ (v : LoggedView N M H). v.ends) ∙ many in
      record {
        count = refl;
        ins = λ k e at. let b = map_back (λ (v : LoggedView N M H). v.ends) done k e at in
            ap (λ (x : EndsView M H). length x.ins) b.2 ∙ (ins_full k b.0 b.1 ∙ sym all);
        outs = λ k e at. let b = map_back (λ (v : LoggedView N M H). v.ends) done k e at in
            ap (λ (x : EndsView M H). length x.outs) b.2 ∙ (outs_full k b.0 b.1 ∙ sym all);
      }

  pub ends_paired : ArePaired (map (λ (v : LoggedView N M H). v.ends) done)
  unfolding map_back known_by
  ends_paired a b o i (e, at, is) (f, bt, it) =
      let u = map_back (λ (v : LoggedView N M H). v.ends) done a e at in
      let v = map_back (λ (v : LoggedView N M H). v.ends) done b f bt in
      let ka = known_by a u.0 u.1 in
      let kb = known_by b v.0 v.1 in
      let fa = ka.run.replay.root.first in
      let fb = kb.run.replay.root.first in
      let out : slice_get u.0.ends.outs b ≡ Some o = ap (λ (x : EndsView M H). slice_get x.outs b) (sym u.2) ∙ is in
      let end : slice_get v.0.ends.ins a ≡ Some i = ap (λ (x : EndsView M H). slice_get x.ins a) (sym v.2) ∙ it in
      let o' =
      exists_at fa.outs b (let l = slice_get_within u.0.ends.outs b o out in
      omega (arith, l, outs_full a u.0 u.1, full.outs a fa ka.first)) in
      let i' =
      exists_at fb.ins a (let l = slice_get_within v.0.ends.ins a i end in
      omega (arith, l, ins_full b v.0 v.1, full.ins b fb kb.first)) in
      let new = linked a b o'.0 i'.0 (fa, ka.first, o'.1) (fb, kb.first, i'.1) in
      out_ring u.0.ends.outs fa.outs b o o'.0 ka.run.replay.outs_same out o'.1
      ∙ (new.ring ∙ sym (in_ring v.0.ends.ins fb.ins a i i'.0 kb.run.replay.ins_same end i'.1))

  pub logs_are : AreLogs (map (λ (v : LoggedView N M H). v.log) done)
  logs_are k = elim (leb_tells n k) [
    | inl q ↦ subst (IsLogFrom k 0)
        (sym (get_or_past (map (λ (v : LoggedView N M H). v.log) done) k []
        (omega (arith, q.1, many, length-map done (λ (v : LoggedView N M H). v.log))))) tt
    | inr q ↦ (
        let h = known k q.1 in
        let r = h.run.replay in
        let is : get_or (map (λ (v : LoggedView N M H). v.log) done) k [] ≡ entries k r.acts =
        map_read (λ (v : LoggedView N M H). v.log) done k h.node [] h.at ∙ (r.log_is ∙ ap (λ (j : ℕ). entries j r.acts) h.run.me_is) in
        rw is (legal_log has_work steps (peers h.node.node) k 0 0 r.root.start r.acts (omega arith) r.legal))
  ]

  module _ (d : N) (v : NetView N M) (events : List Event) (rejoined : IsRejoined done v events) where
    abbrev no_ends : EndsView M H
    no_ends = record { ins = []; outs = [] }

    abbrev start : ℕ → N
    start k = get_or p.nodes k d

    abbrev now : ℕ → N
    now k = get_or (map (λ (v : LoggedView N M H). v.node) done) k d

    abbrev hand : ℕ → List (ℕ × Letter M)
    hand k = get_or (map (λ (v : LoggedView N M H). v.hand) done) k []

    abbrev ends_of : ℕ → EndsView M H
    ends_of k = get_or (map (λ (v : LoggedView N M H). v.ends) done) k no_ends

    abbrev first : ℕ → ℕ → List (Letter M)
    first a b = at_start (link w.rows a b)

    -- what the link from a to b gave before the run
    abbrev before : ℕ → ℕ → List (Letter M)
    before a b = taken (get_or ends b no_ends).ins a

    abbrev taken_all : ℕ → ℕ → List (Letter M)
    taken_all b a = taken (ends_of b).ins a

    abbrev put_all : ℕ → ℕ → List (Letter M)
    put_all a b = put (ends_of a).outs b

    abbrev taken_from : ℕ → ℕ → List (Letter M)
    taken_from b a = drop (length (before a b)) (taken_all b a)

    abbrev put_to : ℕ → ℕ → List (Letter M)
    put_to a b = drop (length (before a b)) (put_all a b)

    abbrev met : ℕ → ℕ → List (Letter M)
    met a b = drop (length (taken_all b a)) (put_all a b)

    -- a link at the start
    new_link : (a b : ℕ) (la : a < n) (lb : b < n) → (o : OutView (Letter M) H) × (i : InView (Letter M) H)
        × (slice_get (known a la).run.replay.root.first.outs b ≡ Some o) × (slice_get (known b lb).run.replay.root.first.ins a ≡ Some i)
        × IsFilled (get_or p.links (a * n + b) []) o i
    new_link a b la lb =
        let ka = known a la in
        let kb = known b lb in
        let fa = ka.run.replay.root.first in
        let fb = kb.run.replay.root.first in
        let o = exists_at fa.outs b (omega (arith, lb, full.outs a fa ka.first)) in
        let i = exists_at fb.ins a (omega (arith, la, full.ins b fb kb.first)) in
        (o.0, i.0, o.1, i.1, linked a b o.0 i.0 (fa, ka.first, o.1) (fb, kb.first, i.1))

    place_is : (a b : ℕ) → a < n → b < n → get_or p.links (a * n + b) [] ≡ link w.rows a b
    place_is a b la lb =
        ap (λ (m : ℕ). get_or p.links (a * m + b) []) (sym count)
        ∙ parts_place p w a b parts (omega (arith, la, count)) (omega (arith, lb, count))

    first_ends : (k : ℕ) (h : NodeGivenBack k) → get_or ends k no_ends ≡ h.run.replay.root.first
    first_ends k h = get_or_from_slice_get ends k h.run.replay.root.first no_ends h.first

    -- what a link gave: first what it gave before, and then what was received or is in hand
    taken_parts : (k a : ℕ) (lt : k < n) →
        taken_all k a ≡ before a k ++ (received a (known k lt).run.replay.acts ++ items_to a (hand k))
    taken_parts k a lt =
        let h = known k lt in
        let r = h.run.replay in
        let u = h.node in
        ap (λ (e : EndsView M H). taken e.ins a) (map_read (λ (v : LoggedView N M H). v.ends) done k u no_ends h.at)
        ∙ (r.taken_is a ∙ (ap (λ (e : EndsView M H). taken e.ins a ++ received a r.acts ++ items_to a u.hand) (sym (first_ends k h))
        ∙ (append_assoc (before a k) (received a r.acts) (items_to a u.hand)
        ∙ ap (λ x. before a k ++ (received a r.acts ++ items_to a x))
        (sym (map_read (λ (v : LoggedView N M H). v.hand) done k u [] h.at)))))

    -- what was put into a link: first what it gave before, then what was there at the start, and then what was sent
    put_parts : (k b : ℕ) (lt : k < n) (lb : b < n) →
        put_all k b ≡ before k b ++ (first k b ++ items_to b (sends steps (start k) (known k lt).run.replay.acts))
    put_parts k b lt lb =
        let h = known k lt in
        let r = h.run.replay in
        let u = h.node in
        let l = new_link k b lt lb in
        let start_is : start k ≡ r.root.start = get_or_from_slice_get p.nodes k r.root.start d h.starts in
        let gave : l.1.taken ≡ before k b =
        sym (taken_at (known b lb).run.replay.root.first.ins k l.1 l.3)
        ∙ ap (λ (e : EndsView M H). taken e.ins k) (sym (first_ends b (known b lb))) in
        let old : put r.root.first.outs b ≡ before k b ++ first k b =
        put_at r.root.first.outs b l.0 l.2 ∙ (l.4.put ∙ (ap (λ t. t ++ at_start (get_or p.links (k * n + b) [])) gave
        ∙ ap (λ t. before k b ++ at_start t) (place_is k b lt lb))) in
        let all : put u.ends.outs b ≡ put r.root.first.outs b ++ items_to b (sends steps r.root.start r.acts) =
        sym (append-nil (put u.ends.outs b)) ∙ (ap (λ x. put u.ends.outs b ++ items_to b x) (sym h.run.unsent) ∙ r.put_is b) in
        ap (λ (e : EndsView M H). put e.outs b) (map_read (λ (v : LoggedView N M H). v.ends) done k u no_ends h.at)
        ∙ (all ∙ (ap (λ t. t ++ items_to b (sends steps r.root.start r.acts)) old
        ∙ (append_assoc (before k b) (first k b) (items_to b (sends steps r.root.start r.acts))
        ∙ ap (λ s. before k b ++ (first k b ++ items_to b (sends steps s r.acts))) (sym start_is))))

    taken_now : (k a : ℕ) (lt : k < n) → taken_from k a ≡ received a (known k lt).run.replay.acts ++ items_to a (hand k)
    taken_now k a lt =
        ap (drop (length (before a k))) (taken_parts k a lt)
        ∙ drop-append_seam (before a k) (received a (known k lt).run.replay.acts ++ items_to a (hand k))

    did : (k : ℕ) → k < n → (ds : List (Act M))
        × Did has_work steps n k (start k) (first k) (get_or (map (λ (v : LoggedView N M H). v.log) done) k []) (now k) (hand k)
        (taken_from k) (put_to k) ds
    did k lt =
        let h = known k lt in
        let r = h.run.replay in
        let u = h.node in
        let start_is : start k ≡ r.root.start = get_or_from_slice_get p.nodes k r.root.start d h.starts in (
          r.acts,
          record {
            log_is =
                map_read (λ (v : LoggedView N M H). v.log) done k u [] h.at ∙ (r.log_is ∙ ap (λ (j : ℕ). entries j r.acts) h.run.me_is);
            node_is =
                map_read (λ (v : LoggedView N M H). v.node) done k u d h.at
                ∙ (r.node_is ∙ ap (λ s. state_after steps s r.acts) (sym start_is));
            legal =
                subst (λ s. Legal has_work steps n 0 s r.acts) (sym start_is)
                (subst (λ (m : ℕ). Legal has_work steps m 0 r.root.start r.acts) (peers_are k u h.at) r.legal);
            taken_is = λ a la. taken_now k a lt;
            put_is = λ b lb. ap (drop (length (before k b))) (put_parts k b lt lb)
                ∙ drop-append_seam (before k b) (first k b ++ items_to b (sends steps (start k) r.acts));
          },
        )

    cell : (a b : ℕ) → a < n → b < n → IsCell (map (λ (v : LoggedView N M H). v.ends) done) (map (λ (v : LoggedView N M H). v.hand) done) a
        b (link v.rows a b)
    cell a b la lb = rejoined.cells a b (omega (arith, la, many)) (omega (arith, lb, many))

    put_is : (a b : ℕ) (la : a < n) (lb : b < n) → put_all a b ≡ (cell a b la lb).out.put
    put_is a b la lb =
        let o = (cell a b la lb).is_out in
        ap (λ (e : EndsView M H). put e.outs b) (get_or_from_slice_get (map (λ (v : LoggedView N M H). v.ends) done) a o.0 no_ends o.1)
        ∙ put_at o.0.outs b (cell a b la lb).out o.2

    taken_is : (a b : ℕ) (la : a < n) (lb : b < n) → taken_all b a ≡ (cell a b la lb).end.taken
    taken_is a b la lb =
        let i = (cell a b la lb).is_in in
        ap (λ (e : EndsView M H). taken e.ins a) (get_or_from_slice_get (map (λ (v : LoggedView N M H). v.ends) done) b i.0 no_ends i.1)
        ∙ taken_at i.0.ins a (cell a b la lb).end i.2

    -- what was taken in the run and what was not is what was put in it
    meet_now : (a b : ℕ) (la : a < n) (lb : b < n) → taken_from b a ++ met a b ≡ put_to a b
    meet_now a b la lb =
        let took = received a (known b lb).run.replay.acts ++ items_to a (hand b) in
        let whole : taken_all b a ++ met a b ≡ put_all a b = rw (put_is a b la lb, taken_is a b la lb) (cell a b la lb).met in
        ap (λ t. t ++ met a b) (taken_now b a lb)
        ∙ (sym (drop-append_seam (before a b) (took ++ met a b))
        ∙ (ap (drop (length (before a b))) (sym (append_assoc (before a b) took (met a b))
        ∙ (ap (λ t. t ++ met a b) (sym (taken_parts b a lb)) ∙ whole))))

    nodes_are : length w.nodes ≡ n
    nodes_are = ap length (sym parts.nodes) ∙ count

    joined : Joined has_work steps n w start now (map (λ (v : LoggedView N M H). v.log) done) hand first taken_from put_to met
    joined = record {
      square = parts.square;
      count = nodes_are;
      nodes = λ k lt. ap (λ l. slice_get l k) (sym parts.nodes) ∙ slice_get-get_or p.nodes k d (omega (arith, lt, count));
      links = λ a b la lb. sym (items_at_start (link w.rows a b));
      few = omega (arith, many, length-map done (λ (v : LoggedView N M H). v.log));
      did = did;
      meet = meet_now;
    }

    rebuilt : IsRebuilt n now (left_of hand met) v
    rebuilt = record {
      square = rejoined.square;
      count = ap length rejoined.nodes ∙ (length-map done (λ (v : LoggedView N M H). v.node) ∙ many);
      nodes = λ k lt.
          let h = known k lt in
          ap (λ l. slice_get l k) rejoined.nodes
          ∙ (map_at (λ (v : LoggedView N M H). v.node) done k h.node h.at
          ∙ ap Some (sym (map_read (λ (v : LoggedView N M H). v.node) done k h.node d h.at)));
      links = λ a b la lb. rw (put_is a b la lb, taken_is a b la lb) (cell a b la lb).link_is;
    }

    pub is_run : LeadsTo has_work steps w events v
    is_run =
        subst (λ es. LeadsTo has_work steps w es v) (sym rejoined.events_are)
        (logs_are_run has_work steps n w v start now (map (λ (v : LoggedView N M H). v.log) done) hand first taken_from put_to met
        rejoined.merged joined rejoined.is_merge rebuilt)

    pub peers_kept : ArePeers peers v
    peers_kept k e lt =
        let count : length v.nodes ≡ n = rebuilt.count in
        let h = known k (omega (arith, lt, count)) in
        let is : get_or v.nodes k e ≡ h.node.node =
        ap (λ l. get_or l k e) rejoined.nodes ∙ map_read (λ (v : LoggedView N M H). v.node) done k h.node e h.at in
        ap peers is ∙ (peers_are k h.node h.at ∙ sym count)

    -- a node that had a task has an event
    event_by_log : (k : ℕ) (h : NodeGivenBack k) (s : N) → s ≡ h.run.replay.root.start → has_work s ≡ true → (l : List (Stamped Event)) →
        h.node.log ≡ l → HasEventOf k events
    event_by_log k h s is work [] e = absurd (
        let r = h.run.replay in
        let none : r.acts ≡ [] = no_acts h.node.me r.acts (sym e ∙ r.log_is) in
        let same : h.node.node ≡ s = r.node_is ∙ (ap (state_after steps r.root.start) none ∙ sym is) in
        let idle : has_work s ≡ false = ap has_work (sym same) ∙ h.run.worked e in
        cc (sym work ∙ idle))
    event_by_log k h s is work (x ∷ xs) e =
        let r = h.run.replay in
        let own : by_node k rejoined.merged ≡ x ∷ xs =
        rejoined.is_merge.whole k ∙ (map_read (λ (v : LoggedView N M H). v.log) done k h.node [] h.at ∙ e) in
        let at = entry_at k rejoined.merged x xs own in (
          at.0,
          x.item,
          ap (λ l. slice_get l at.0) rejoined.events_are
              ∙ map_at (λ (e : Stamped Event). e.item) rejoined.merged at.0 x at.1,
          first_node h.node.me r.acts x xs (sym e ∙ r.log_is)
              ∙ h.run.me_is,
        )

    pub has_event : (k : ℕ) (s : N) → slice_get w.nodes k ≡ Some s → has_work s ≡ true → HasEventOf k events
    has_event k s at work =
        let lt : k < n = (let l = slice_get_within w.nodes k s at in omega (arith, l, nodes_are)) in
        let h = known k lt in
        event_by_log k h s (same_at p.nodes k s h.run.replay.root.start (ap (λ l. slice_get l k) parts.nodes ∙ at) h.starts) work h.node.log
        refl

-- each node has an end from and an end to each of its peers
pub has_ends : {N M H : Type 0} (peers : N → ℕ) (n : ℕ) (w : NetView N M) (p : PartsView N M) (ends : List (EndsView M H)) → AreParts p w →
    length p.nodes ≡ n → ArePeers peers w → AreFull n ends → HasEnds peers (roots_of p.nodes ends)
has_ends peers n w p ends parts count are full k r at =
    let root = root_at p.nodes ends k r at in
    let is_peers : peers r.start ≡ n =
    all_get (λ s. peers s ≡ length w.nodes) w.nodes k r.start (ap (λ l. slice_get l k) (sym parts.nodes) ∙ root.0) are
    ∙ (ap length (sym parts.nodes) ∙ count) in
    (full.ins k r.first root.1 ∙ sym is_peers, full.outs k r.first root.1 ∙ sym is_peers)

pub no_task : {N M : Type 0} (has_work : N → Bool) (w : NetView N M) (k : ℕ) (s : N) → IsQuiet has_work w → slice_get w.nodes k ≡ Some s →
    has_work s ≡ true → ⊥
no_task {N} {M} has_work w k s quiet at work =
    let q : enabled has_work w (record { node = k; from = None }) ≡ false = quiet (record { node = k; from = None }) in
    cc (sym work ∙ subst (λ (o : Option N). is_ready {M = M} has_work o (Some Task) ≡ false) at q)

pub if_ok_then : {T E : Type 0} (P Q : T → Type 0) (r : Result T E) → ((x : T) → P x → Q x) → IfOk r P → IfOk r Q
if_ok_then P Q (Ok x) f h = f x h
if_ok_then P Q (Err e) f h = tt
