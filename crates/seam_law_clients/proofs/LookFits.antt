-- After the phase of looks each client, which was shown one look at the flat table, fits its witness again.
use Rattle.seam_law_clients.proofs.Prelude.{◌≡◌, ℕ, List, Option, None, Some, refl, sym, ap, ◌∙◌, subst, arith, slice_get, IsQuiet, Event}
use Rattle.seam_law_clients.proofs.Prelude.{RealView, WitnessView, CellView, NodeView, World, node_has_work, Cell, Base, look_loaded}
use Rattle.seam_law_clients.proofs.Prelude.{slot_at, Frame, has_of, has_none, real_in, RunsTo, real_at, IsBetweenRounds, HadSameReal}
use Rattle.seam_law_clients.proofs.Prelude.{rows_of, FitsWitness, ClientsFit, witness_looked, looked_by, having_looked, HaveRoomToLook}
use Rattle.seam_law_clients.proofs.Prelude.{ClientReplica, after_all_shown, one_look}
use Rattle.std.specs.FinMap as table
use Rattle.seam_law_rounds.specs.Prelude.{NeverShown}
use Rattle.seam_law_clients.proofs.LookEnds.{looked}

-- ---- the record of clients again

module _ (f : Frame) (u : World) (between : IsBetweenRounds f u) (room : HaveRoomToLook u) (vs : List Event) (v : World)
    (run : RunsTo (look_loaded u) vs v) (quiet : IsQuiet node_has_work v)
    (was : (e k : ℕ) (q : RealView) → real_at e v k ≡ Some q → HadSameReal e k q u) where
  -- what a real with a witness was before it looked
  pub record HadWitness (e k : ℕ) (q : RealView) (w : WitnessView) : Type 0 where
    pub real : RealView
    pub here : real_at e u k ≡ Some real
    pub witness : WitnessView
    pub has : real.witness ≡ Some witness
    pub cell : CellView
    pub node : slice_get u.nodes k ≡ Some (Cell cell)
    pub same : looked_by cell e real (Some witness) ≡ q
    pub is : witness_looked cell e real witness ≡ w

  cell_of : (e k : ℕ) (r : RealView) (o : Option NodeView) → slice_get u.nodes k ≡ o → real_in (slot_at (has_of e) has_none o) ≡ Some r →
      (c : CellView) × (slice_get u.nodes k ≡ Some (Cell c))
  cell_of e k r None at here = absurd (let z = here in cc)
  cell_of e k r (Some (Cell c)) at here = (c, at)
  cell_of e k r (Some (Base b)) at here = absurd (let z = here in cc)

  had_by : (e k : ℕ) (r q : RealView) (w : WitnessView) (cell : CellView) → real_at e u k ≡ Some r →
      slice_get u.nodes k ≡ Some (Cell cell) → q.witness ≡ Some w → (o : Option WitnessView) → r.witness ≡ o →
      looked_by cell e r o ≡ q → HadWitness e k q w
  had_by e k r q w cell at node seen None has is =
      absurd (let z = sym has ∙ ap (λ (y : RealView). y.witness) is ∙ seen in cc)
  had_by e k r q w cell at node seen (Some x) has is = record {
    real = r;
    here = at;
    witness = x;
    has = has;
    cell = cell;
    node = node;
    same = is;
    is = some_is (ap (λ (y : RealView). y.witness) is ∙ seen);
  }
    where
      some_is : {a b : WitnessView} → Some a ≡ Some b → a ≡ b
      some_is h = cc

  pub had_witness : (e k : ℕ) (q : RealView) → real_at e v k ≡ Some q → (w : WitnessView) → q.witness ≡ Some w → HadWitness e k q w
  had_witness e k q at w seen =
      let there = was e k q at in
      let cell = cell_of e k there.real (slice_get u.nodes k) refl there.here in
      let same : having_looked cell.0 e there.real ≡ q =
      some_real (sym (looked f u between room vs v run quiet e k there.real there.here cell.0 cell.1) ∙ at) in
      had_by e k there.real q w cell.0 there.here cell.1 seen there.real.witness refl same
    where
      some_real : {a b : RealView} → Some a ≡ Some b → a ≡ b
      some_real h = cc

  module _ (clients : ℕ → ClientReplica) (fit : ClientsFit f clients u) where
    -- what each client shows after its look
    abbrev pub shows : ℕ → ClientReplica
    shows e = after_all_shown (clients e) (one_look (clients e) e (rows_of u))

    carried : (r : RealView) (w : WitnessView) (c : ClientReplica) → FitsWitness f u r w c → FitsWitness f v r w c
    carried r w c fits = record {
      others = fits.others;
      view = fits.view;
      radius = fits.radius;
      hysteresis = fits.hysteresis;
      told = fits.told;
      not_ahead = fits.not_ahead;
      own = fits.own;
      others_not_ahead = λ x j version q shown at.
          let there = was x j q at in
          let le = fits.others_not_ahead x j version there.real shown there.here in
          let same = ap (λ (y : RealView). y.public) there.same in
          omega (arith, le, same);
    }

    module _ (again : (e k : ℕ) (r : RealView) → real_at e u k ≡ Some r → (w : WitnessView) →
        FitsWitness f u r w (clients e) → (cell : CellView) → slice_get u.nodes k ≡ Some (Cell cell) →
        FitsWitness f u (record r { witness = Some (witness_looked cell e r w) }) (witness_looked cell e r w) (shows e)) where
      fits_by : (e k : ℕ) (q : RealView) (w : WitnessView) → HadWitness e k q w → FitsWitness f v q w (shows e)
      fits_by e k q w h =
          let now : FitsWitness f v (record h.real { witness = Some (witness_looked h.cell e h.real h.witness) })
          (witness_looked h.cell e h.real h.witness) (shows e) =
          carried (record h.real { witness = Some (witness_looked h.cell e h.real h.witness) })
          (witness_looked h.cell e h.real h.witness) (shows e)
          (again e k h.real h.here h.witness (fit.each e k h.real h.here h.witness h.has) h.cell h.node) in
          subst (λ y. FitsWitness f v y w (shows e)) h.same
          (subst (λ y. FitsWitness f v (record h.real { witness = Some (witness_looked h.cell e h.real h.witness) }) y (shows e)) h.is now)

      pub fit_again : ClientsFit f shows v
      fit_again = record { each = λ e k q at w seen. fits_by e k q w (had_witness e k q at w seen) }

  -- whom no client was shown, and who has no real, none is shown
  pub never_shown_looked : (n : ℕ) → ((e k : ℕ) (r : RealView) → real_at e u k ≡ Some r → (w : WitnessView) → r.witness ≡ Some w →
      table.get w.view.shown n ≡ None → (cell : CellView) → slice_get u.nodes k ≡ Some (Cell cell) →
      table.get (witness_looked cell e r w).view.shown n ≡ None) → NeverShown u n → NeverShown v n
  never_shown_looked n looks never e k q at w seen =
      let h = had_witness e k q at w seen in
      subst (λ (y : WitnessView). table.get y.view.shown n ≡ None) h.is
      (looks e k h.real h.here h.witness h.has (never e k h.real h.here h.witness h.has) h.cell h.node)
