-- The session lines of a header make settings of daemons.
use Rattle.sl_area.specs.AreaSizes.{Layout, layout_of}
use Rattle.sl_area.specs.AreaLayout.{is_base}
use Rattle.sl_world_state.specs.Daemons.{begun_with}
use Rattle.sl_world_state.specs.FirstKept.{given_to}
use Rattle.sl_run.specs.Lawful.{IsGiven}
use Rattle.sl_words.proofs.Lists.{find_inside}
use Rattle.sl_words.proofs.Options.{mapped_value}
use Rattle.sl_run.specs.Headers.{GoTogether, IsArea, IsHeader}
use Rattle.sl_run.specs.Worlds.{clock_reading, given_of, mebibyte}
use Rattle.sl_run.specs.declared.header.FirstReading.{FirstReading}
use Rattle.sl_run.specs.declared.header.Header.{Header}
use Rattle.sl_run.specs.declared.header.LockspaceLine.{LockspaceLine}
use Rattle.sl_run.specs.declared.header.SessionLine.{SessionLine}
use Rattle.sl_sector.proofs.WrittenBytes.{sha256_is_digest}
use Rattle.sl_text.specs.Names.{is_name}
use Rattle.sl_trace.specs.Traces.{Setting}
use Rattle.sl_trace.specs.declared.input.Given.{Given}
use Rattle.sl_words.proofs.CaseLaws.{is_false, none_some}
use Rattle.sl_words.specs.Bounds.{moments}
use Rattle.sl_world_law.proofs.PlainGivens.{given_of_one, pairs_given}
use Rattle.sl_world_law.specs.WorldsStand.{FirstSettings, first_site}
use Rattle.std.proofs.Common.{ap, arith, refl, subst, sym, ◌∙◌}
use Rattle.std.proofs.lemmas.Bool.Decides.{Decides-eqb}
use Rattle.std.proofs.lemmas.Bool.{and_from, eq-eqb, lt-ltb}
use Rattle.std.proofs.lemmas.List.Elements.{Contains-get_or, recursion_from_All}
use Rattle.std.proofs.lemmas.Slice.Eq.{bytes_eq-Decides}
use Rattle.std.specs.Option.{option_map_or}
use Rattle.std.specs.Prelude.{Bool, Contains, IsFalse, IsTrue, List, None, Option, Some, bytes_eq, false, find, option_map, true, ℕ, ◌%◌, ◌*◌, ◌+◌, ◌<◌, ◌==◌, ◌^◌, ◌≡◌, ◌≤◌}

-- ---- readings and places

reading_by : (h : Header) → IsHeader h → (m : ℕ) (o : Option FirstReading) → find (λ (c : FirstReading). c.machine == m) h.clocks ≡ o
    → option_map_or (λ (c : FirstReading). c.reading) o 0 < moments
reading_by h is m None at = omega arith
reading_by h is m (Some c) at =
    let below = (is.clocks c (find_inside (λ (x : FirstReading). x.machine == m) h.clocks c at).0).2 in omega (arith, below)

reading_below : (h : Header) → IsHeader h → (m : ℕ) → clock_reading h m < moments
reading_below h is m = reading_by h is m (find (λ (c : FirstReading). c.machine == m) h.clocks) refl

small_offset : (offset area mebibytes : ℕ) → offset + area ≤ mebibytes * mebibyte → mebibytes ≤ 64 → offset < 10 ^ 12
small_offset offset area mebibytes inside few = omega (arith, inside, few)

-- An area of the header begins at a base.
base_of : (h : Header) → IsHeader h → (path : List ℕ) (offset : ℕ) → IsArea h path offset → is_base (layout_of h.geometry) offset ≡ true
base_of h is path offset a =
    let d = a.on_disk in
    and_from _ _ (eq-eqb (offset % h.geometry.area) 0 a.aligned) (lt-ltb offset (10 ^ 12) (small_offset offset h.geometry.area d.0.mebibytes d.3 (is.disks d.0 d.1).2))

-- ---- what a daemon is given

-- A session line of the machine, with its lockspace.
record GivenBy (h : Header) (m : ℕ) (s : SessionLine) (g : Given) : Type 0 where
  pub machine : s.machine ≡ m
  pub space : LockspaceLine
  pub there : Contains h.lockspaces space
  pub named : space.name ≡ s.lockspace
  pub is : record { lockspace = s.lockspace; id = s.id; path = space.path; offset = space.offset; renewed = clock_reading h m } ≡ g

given_by : (h : Header) (m : ℕ) (s : SessionLine) (g : Given) → given_of h m s ≡ Some g → GivenBy h m s g
given_by h m s g e = go (s.machine == m) refl e
  where
    made_by : LockspaceLine → Given
    made_by l = record { lockspace = s.lockspace; id = s.id; path = l.path; offset = l.offset; renewed = clock_reading h m }

    named : LockspaceLine → Bool
    named l = bytes_eq l.name s.lockspace

    go : (b : Bool) → (s.machine == m) ≡ b → elim b as (λ x. Option Given) [ false ↦ None | true ↦ option_map made_by (find named h.lockspaces) ] ≡ Some g → GivenBy h m s g
    go false here h_is = absurd (none_some g h_is)
    go true here h_is =
        let l = mapped_value made_by (find named h.lockspaces) g h_is in
        let inside = find_inside named h.lockspaces l.0 l.1 in
        record {
          machine = (Decides-eqb s.machine m).0 here;
          space = l.0;
          there = inside.0;
          named = (bytes_eq-Decides l.0.name s.lockspace).0 inside.1;
          is = l.2;
        }

-- Each is a session that a daemon may begin with.
is_given : (h : Header) → IsHeader h → (st : Setting) → st.layout ≡ layout_of h.geometry → (m : ℕ) (g : Given) → Contains (given_to h m) g → IsGiven st g
is_given h is st layout m g inside =
    let from = given_of_one (given_of h m) h.sessions g inside in
    let by = given_by h m from.0 g from.2 in
    let member = is.members from.0 from.1 in
    let area = is.lockspaces by.space by.there in
    subst (IsGiven st) by.is (record {
      id = subst (λ (x : Layout). (1 ≤ from.0.id) × (from.0.id ≤ x.hosts)) (sym layout) member.id;
      base = subst (λ (x : Layout). IsTrue (is_base x by.space.offset)) (sym layout) (base_of h is by.space.path by.space.offset area.1);
      renewed = reading_below h is m;
      lockspace = subst (λ n. IsTrue (is_name n)) by.named area.0;
    })

-- They are of different lockspaces.
lockspaces_differ : (h : Header) (m : ℕ) (s t : SessionLine) (g k : Given) → given_of h m s ≡ Some g → given_of h m t ≡ Some k → GoTogether s t
    → IsFalse (bytes_eq g.lockspace k.lockspace)
lockspaces_differ h m s t g k of_s of_t together =
    let by_s = given_by h m s g of_s in
    let by_t = given_by h m t k of_t in
    is_false (bytes_eq g.lockspace k.lockspace) (λ same.
    together.once (ap (λ (x : Given). x.lockspace) by_s.is ∙ (bytes_eq-Decides g.lockspace k.lockspace).0 same ∙ sym (ap (λ (x : Given). x.lockspace) by_t.is))
    (by_s.machine ∙ sym by_t.machine))

pub first_settings : FirstSettings
first_settings commands h is reads m s at =
    let st : Setting = begun_with commands h (first_site h m s) in
    record {
      timing = is.timing;
      layout = (h.geometry, is.geometry, refl);
      digest = sha256_is_digest;
      name = (is.members s (find_inside (λ (x : SessionLine). x.machine == m) h.sessions s at).0).name;
      reads = reads;
      each = recursion_from_All (IsGiven st) (given_to h m) (λ k d inside. is_given h is st refl m _ (Contains-get_or (given_to h m) k d inside));
      different = pairs_given GoTogether (λ a b. IsFalse (bytes_eq a.lockspace b.lockspace)) (given_of h m) (lockspaces_differ h m) h.sessions is.together;
    }
