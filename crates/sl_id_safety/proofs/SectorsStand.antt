-- What stands in a joined session's sector, until it is over, is its own.
use Rattle.sl_area.specs.AreaSizes.{Layout, record_in}
use Rattle.sl_area.specs.AreaLayout.{delta_offset}
use Rattle.sl_id_safety.proofs.JoinedStand.{joined_stand}
use Rattle.sl_id_safety.specs.Interface.{SectorsStand}
use Rattle.sl_id_safety.specs.JoinedStand.{sector_offset}
use Rattle.sl_id_safety.proofs.State.TraceBridge.{known}
use Rattle.sl_id_safety.proofs.State.SessionFacts.{grounds}
use Rattle.sl_id_safety.specs.State.IdStates.{content_of, id_state, landing_of, name_of, said_by}
use Rattle.sl_id_safety.specs.Reached.IdsAreReached.{IdsAreReached}
use Rattle.sl_ids.proofs.DerivedLaws.{watchdogs}
use Rattle.sl_ids.proofs.WholeRuns.{reached_kept}
use Rattle.sl_ids.specs.Guards.{terms_of}
use Rattle.sl_ids.specs.Invariant.{Invariant, IsOwnRecord}
use Rattle.sl_ids.specs.Listed.{no_landing}
use Rattle.sl_ids.specs.State.{Content, Landing as IdLanding, Session as IdSession, SessionId as IdName, State}
use Rattle.sl_ids.specs.Terms.{Terms}
use Rattle.sl_run.specs.Safety.{world_at}
use Rattle.sl_run.specs.Worlds.{Landing, World, content, first_landing, history_of}
use Rattle.sl_run_law.specs.Sample.Samples.{numbered_landing}
use Rattle.sl_sector.specs.SectorLayouts.{delta_in}
use Rattle.sl_trace.specs.Traces.{same_place}
use Rattle.std.proofs.Common.{ap, arith, inl, inr, refl, subst, sym, ◌∙◌}
use Rattle.std.proofs.lemmas.Bool.{cases_lt, eq-eqb}
use Rattle.std.specs.Option.{option_map_or}
use Rattle.std.specs.Prelude.{Bool, List, None, Option, Some, [], cond, false, filter, find, length, option_map, suc, true, ℕ, ◌++◌, ◌<◌, ◌∷◌, ◌≡◌, ◌⊎◌}

-- ---- what stands at a place is the newest of its history

abbrev bytes_by : Option Landing → List ℕ → List ℕ
bytes_by o first = elim o [ Some l ↦ l.bytes | None ↦ first ]

pub record HasTop (xs : List Landing) (bytes : List ℕ) : Type 0 where
  pub top : Landing
  pub below : List Landing
  pub whole : xs ≡ top ∷ below
  pub holds : bytes ≡ top.bytes

top_by : (p : Landing → Bool) (x : Landing) (xs : List Landing) (first : Landing) (b : Bool) → HasTop (filter p xs ++ first ∷ []) (bytes_by (find p xs) first.bytes)
    → HasTop (cond b (x ∷ filter p xs) (filter p xs) ++ first ∷ []) (bytes_by (cond b (Some x) (find p xs)) first.bytes)
top_by p x xs first true rest = record { top = x; below = filter p xs ++ first ∷ []; whole = refl; holds = refl }
top_by p x xs first false rest = rest

has_top : (p : Landing → Bool) (xs : List Landing) (first : Landing) → HasTop (filter p xs ++ first ∷ []) (bytes_by (find p xs) first.bytes)
has_top p [] first = record { top = first; below = []; whole = refl; holds = refl }
has_top p (x ∷ xs) first = top_by p x xs first (p x) (has_top p xs first)

-- The newest landing of a place spells what stands there.
pub newest_stands : (w : World) (path : List ℕ) (offset : ℕ) → HasTop (history_of w path offset) (content w path offset)
newest_stands w path offset = has_top (λ l. same_place l.path l.offset path offset) w.landings (first_landing w path offset)

pub numbered_top : (l : Landing) (ls : List Landing) → numbered_landing (l ∷ ls) (length ls) ≡ Some l
numbered_top l ls = ap (λ b. elim b as (λ z. Option Landing) [ true ↦ Some l | false ↦ numbered_landing ls (length ls) ]) (eq-eqb (length ls) (length ls) refl)

-- ---- the writer of the newest landing

less_or_not : (m n : ℕ) → (m < n) ⊎ (m < n → ⊥)
less_or_not m n = elim (cases_lt m n) as (λ z. (m < n) ⊎ (m < n → ⊥)) [ inl lt ↦ inl lt | inr ge ↦ inr (λ lt. omega (arith, lt, ge)) ]

last_or_above : (claim k : ℕ) → claim < suc k → (claim < k) ⊎ (claim ≡ k)
last_or_above claim k lt = by (less_or_not claim k) where
  by : (claim < k) ⊎ (claim < k → ⊥) → (claim < k) ⊎ (claim ≡ k)
  by (inl less) = inl less
  by (inr not) = inr (omega (arith, lt, not))

-- ---- the law

-- What a landing of an id says, at or above the claim of a session that has verified and isn't over, is said by the session.
pub own_above : (r : Terms) (v : State) (n : IdName) → Invariant r v → (v.session n).verified ≡ true → (v.session n).over ≡ false → (k : ℕ) → k < v.count → (v.session n).claim < suc k
    → (x : Content) → (v.landing k).shown ≡ Some x → IsOwnRecord (v.session n).name (v.session n).generation (v.session n).seq (v.session n).verified (v.session n).over x
own_above r v n inv verified acts k below within x shows =
    let s = inv.one n in
    s.wrote k below (by (last_or_above (v.session n).claim k within) (s.verified verified).1.writer below) x shows
  where
    by : ((v.session n).claim < k) ⊎ ((v.session n).claim ≡ k) → (v.landing (v.session n).claim).writer ≡ Some n → k < v.count → (v.landing k).writer ≡ Some n
    by (inl above) writer below = (inv.one n).owner verified acts k above below
    by (inr same) writer below = subst (λ (m : ℕ). (v.landing m).writer ≡ Some n) same writer

-- So the newest landing of an id.
pub own_record : (r : Terms) (v : State) (n : IdName) → Invariant r v → (v.session n).verified ≡ true → (v.session n).over ≡ false → (k : ℕ) → suc k ≡ v.count → (x : Content)
    → (v.landing k).shown ≡ Some x → IsOwnRecord (v.session n).name (v.session n).generation (v.session n).seq (v.session n).verified (v.session n).over x
own_record r v n inv verified acts k last x shows =
    let claim = ((inv.one n).verified verified).1.within in
    own_above r v n inv verified acts k (subst (λ m. k < m) last (omega arith)) (subst (λ m. (v.session n).claim < m) (sym last) claim) x shows

pub sectors_stand_given : IdsAreReached → SectorsStand
sectors_stand_given reached p h xs run i f d its joined stands reads =
    let w : World = world_at p h xs in
    let r : Terms = terms_of h.timing in
    let s = joined_stand p h xs run i f its joined in
    let path : List ℕ = f.session.path in
    let offset : ℕ = sector_offset w f in
    let v : State = id_state w path offset in
    let kept = reached_kept r v (watchdogs.long h.timing run.header.timing) (reached p h xs path offset run s.place) in
    let layout = (known grounds p h xs run i f its).of_world.layout in
    let there : delta_in (record_in w.layout (content w path offset)) ≡ Some d =
    subst (λ (g : Layout). delta_in (record_in w.layout (content w path (delta_offset g f.session.offset f.session.id))) ≡ Some d) layout reads in
    let t = newest_stands w path offset in
    let landing : v.landing (length t.below) ≡ landing_of w t.top =
    ap (λ ls. option_map_or (landing_of w) (numbered_landing ls (length t.below)) no_landing) t.whole ∙ ap (λ o. option_map_or (landing_of w) o no_landing) (numbered_top t.top t.below) in
    let shows : (v.landing (length t.below)).shown ≡ Some (content_of d) =
    ap (λ (l : IdLanding). l.shown) landing ∙ ap (said_by w.layout) (sym t.holds) ∙ ap (option_map content_of) there in
    let own = own_record r v (name_of i) kept.0 s.verified (s.over ∙ stands) (length t.below) (sym (ap (λ ls. length ls) t.whole)) (content_of d) shows in
    (own.generation ∙ s.generation, own.its ∙ ap (λ (x : IdSession). Some x.name) s.stands)
