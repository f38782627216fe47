-- Leader and blocks of an area lie on it: it has room for leader, request and the block of each host, with one sector or with two.
use Rattle.sl_host_law.specs.Answers.LeasesGoOn.{IsPlacedAt}
use Rattle.sl_host_law.specs.Answers.LeaseDecisions.{read_from}
use Rattle.sl_area.specs.AreaSizes.{IsGeometry, Layout, Sizes, layout_of, roomy}
use Rattle.sl_area.specs.AreaLayout.{block_offset, block_sectors, pair_offset}
use Rattle.sl_sector.specs.SectorLayouts.{is_first_turn}
use Rattle.sl_trace.specs.declared.effects.LeaseRead.TheVariants.{OfArea, OfBlock, OfFree, OfPhase1, OfPhase2}
use Rattle.sl_host_law.proofs.Calls.MemberCalls.SpotsMore.{spot_comes}
use Rattle.sl_due.specs.Steps.{Step, seen}
use Rattle.sl_host_state.specs.KeptState.{Config, HostState, MemberState}
use Rattle.sl_host_state.specs.NewHost.{sizes_in}
use Rattle.sl_host_state.specs.Passes.{whos}
use Rattle.sl_host_law.specs.Steps.SoundHosts.{IsLaidOut}
use Rattle.sl_host_law.specs.Questions.Members.{IsMemberAt}
use Rattle.sl_trace.specs.Sessions.{calls_of}
use Rattle.sl_trace.specs.declared.effects.LeaseStep.TheVariants.{ClearMode, FreeLeader, Phase1Read, Phase1Write, Phase2Read, Phase2Write, ReadAgain, ReadArea, ReadBeforeBlock, ReadBeforeFree, SetMode, TakeLeader}
use Rattle.sl_trace.specs.declared.effects.LeaseStep.{LeaseStep}
use Rattle.sl_trace.specs.declared.effects.Spot.{Spot}
use Rattle.sl_trace.specs.declared.input.Input.{Input}
use Rattle.sl_words.proofs.WordLaws.{and_true, or_true}
use Rattle.std.proofs.Common.{ap, arith, inl, inr, refl, subst, sym, ◌∙◌}
use Rattle.std.proofs.Math.Nat.{div-add-mod', mul-mod_left}
use Rattle.std.proofs.lemmas.Bool.{eqb-true, leb-true}
use Rattle.std.proofs.lemmas.Nat.{mod-mul-add}
use Rattle.std.specs.Int.{is_in_range}
use Rattle.std.specs.Prelude.{Bool, Contains, false, if◌then◌else◌, map, nat_le, true, ℕ, ◌%◌, ◌&&◌, ◌*◌, ◌+◌, ◌-◌, ◌/◌, ◌<◌, ◌==◌, ◌≡◌, ◌≤◌}

-- ---- room

-- With pairs there are at most half as many hosts.
few : (paired : Bool) (hosts n : ℕ) → hosts ≤ roomy paired n → elim paired as (λ z. ℕ) [ false ↦ hosts | true ↦ 2 * hosts ] ≤ n
few true hosts n most = (let half : hosts ≤ n / 2 = most in omega (arith, half))
few false hosts n most = most

row : (z : Sizes) (k s a n : ℕ) → (s == z.sector && a == z.area && is_in_range 1 (roomy z.paired n) z.hosts) ≡ true → k ≤ block_sectors (layout_of z) + 1 → (k ≤ n + 1 → s * k < a) → z.sector * k < z.area
row z k s a n is most fits =
    let more = and_true (s == z.sector && a == z.area) (is_in_range 1 (roomy z.paired n) z.hosts) is in
    let parts = and_true (s == z.sector) (a == z.area) more.0 in
    let low = and_true (nat_le 1 z.hosts) (nat_le z.hosts (roomy z.paired n)) more.1 in
    let within : z.hosts ≤ roomy z.paired n = leb-true z.hosts (roomy z.paired n) low.1 in
    let blocks : block_sectors (layout_of z) ≤ n = few z.paired z.hosts n within in
    let below : s * k < a = fits (omega (arith, most, blocks)) in
    subst (λ t. t * k < z.area) (eqb-true s z.sector parts.0) (subst (λ b. s * k < b) (eqb-true a z.area parts.1) below)

pub blocks_have_room : (z : Sizes) (k : ℕ) → IsGeometry z → k ≤ block_sectors (layout_of z) + 1 → z.sector * k < z.area
blocks_have_room z k is most = elim (or_true _ _ is) [
  | inl a ↦ row z k 512 1048576 2000 a most (λ f. omega (arith, f))
  | inr rest ↦ elim (or_true _ _ rest) [
    | inl a ↦ row z k 4096 1048576 250 a most (λ f. omega (arith, f))
    | inr rest ↦ elim (or_true _ _ rest) [
      | inl a ↦ row z k 4096 2097152 500 a most (λ f. omega (arith, f))
      | inr rest ↦ elim (or_true _ _ rest) [
        | inl a ↦ row z k 4096 4194304 1000 a most (λ f. omega (arith, f))
        | inr rest ↦ elim (or_true _ _ rest) [ inl a ↦ row z k 4096 8388608 2000 a most (λ f. omega (arith, f)) | inr none ↦ absurd cc ]
      ]
    ]
  ]
]

-- There is a sector for each host.
pub hosts_are_fewer : (g : Layout) → g.hosts ≤ block_sectors g
hosts_are_fewer g = by g.paired where
  by : (q : Bool) → g.hosts ≤ elim q as (λ z. ℕ) [ false ↦ g.hosts | true ↦ 2 * g.hosts ]
  by false = omega arith
  by true = omega arith

pub has_room : (z : Sizes) (k : ℕ) → IsGeometry z → k ≤ z.hosts + 1 → z.sector * k < z.area
has_room z k is most = (let fewer = hosts_are_fewer (layout_of z) in blocks_have_room z k is (omega (arith, most, fewer)))

-- ---- what lies in an area

-- An area's start is a multiple of its size.
pub begins_at : (n d : ℕ) → (n - n % d) % d ≡ 0
begins_at n d = let whole : n - n % d ≡ n / d * d = left (n / d * d) (n % d) n (div-add-mod' n d) in ap (λ k. k % d) whole ∙ mul-mod_left (n / d) d where
  left : (a b c : ℕ) → a + b ≡ c → c - b ≡ a
  left a b c is = omega (arith, is)

within : (a b r : ℕ) → b % a ≡ 0 → r < a → b + r - (b + r) % a ≡ b
within a b r zero below =
    let whole : b / a * a + b % a ≡ b = div-add-mod' b a in
    let start : b / a * a ≡ b = sym (ap (λ n. b / a * a + n) zero ∙ plus (b / a * a)) ∙ whole in
    let rest : (b + r) % a ≡ r = ap (λ n. (n + r) % a) (sym start) ∙ mod-mul-add (b / a) a r below in
    ap (λ n. b + r - n) rest ∙ less b r where
      plus : (n : ℕ) → n + 0 ≡ n
      plus n = omega arith

      less : (p q : ℕ) → p + q - q ≡ p
      less p q = omega arith

alone : (a b : ℕ) → b % a ≡ 0 → b - b % a ≡ b
alone a b zero = ap (λ n. b - n) zero ∙ minus b where
  minus : (n : ℕ) → n - 0 ≡ n
  minus n = omega arith

pub placed : (h : HostState) (m : MemberState) (at : Spot) → IsLaidOut h → Contains (whos h) m.who → at.base % h.config.layout.area ≡ 0 → IsPlacedAt h m at
placed h m at laid there zero =
    record {
      room = (let some : h.config.layout.sector * 0 < h.config.layout.area = fits 0 (omega arith) in omega (arith, some));
      reads = reads (alone h.config.layout.area at.base zero) first;
      block = λ turn. block turn h.config.layout.paired refl;
      leader = alone h.config.layout.area at.base zero;
    } where
      fits : (k : ℕ) → k ≤ block_sectors h.config.layout + 1 → h.config.layout.sector * k < h.config.layout.area
      fits k most = blocks_have_room (sizes_in h.config.layout) k laid.geometry most

      id : (1 ≤ m.who.id) × (m.who.id ≤ h.config.layout.hosts)
      id = laid.ids m.who there

      first : at.base + h.config.layout.sector * 2 - (at.base + h.config.layout.sector * 2) % h.config.layout.area ≡ at.base
      first =
          let low = id.0 in
          let high = id.1 in
          let fewer = hosts_are_fewer h.config.layout in
          within h.config.layout.area at.base (h.config.layout.sector * 2) zero (fits 2 (omega (arith, low, high, fewer)))

      -- The own block, by whether it has a pair of sectors.
      place_by : ℕ → Bool → ℕ
      place_by turn q =
          elim q as (λ z. ℕ) [ false ↦ block_offset h.config.layout at.base m.who.id | true ↦ pair_offset h.config.layout at.base m.who.id (is_first_turn turn) ]

      of_pair : (q : Bool) → h.config.layout.paired ≡ true → at.base + h.config.layout.sector * (2 * m.who.id + (if q then 0 else 1)) - (at.base + h.config.layout.sector * (2 * m.who.id + (if q then 0 else 1))) % h.config.layout.area ≡ at.base
      of_pair q is =
          let high = id.1 in
          let all : block_sectors h.config.layout ≡ 2 * h.config.layout.hosts = ap (λ b. elim b as (λ z. ℕ) [ false ↦ h.config.layout.hosts | true ↦ 2 * h.config.layout.hosts ]) is in
          within h.config.layout.area at.base (h.config.layout.sector * (2 * m.who.id + (if q then 0 else 1))) zero (fits (2 * m.who.id + (if q then 0 else 1)) (by q high all)) where
            by : (b : Bool) → m.who.id ≤ h.config.layout.hosts → block_sectors h.config.layout ≡ 2 * h.config.layout.hosts → 2 * m.who.id + (if b then 0 else 1) ≤ block_sectors h.config.layout + 1
            by true high all = omega (arith, high, all)
            by false high all = omega (arith, high, all)

      block : (turn : ℕ) (q : Bool) → h.config.layout.paired ≡ q → place_by turn q - place_by turn q % h.config.layout.area ≡ at.base
      block turn false is =
          let high = id.1 in
          let fewer = hosts_are_fewer h.config.layout in
          within h.config.layout.area at.base (h.config.layout.sector * (m.who.id + 1)) zero (fits (m.who.id + 1) (omega (arith, high, fewer)))
      block turn true is = of_pair (is_first_turn turn) is

      reads : at.base - at.base % h.config.layout.area ≡ at.base → at.base + h.config.layout.sector * 2 - (at.base + h.config.layout.sector * 2) % h.config.layout.area ≡ at.base → (step : LeaseStep)
          → read_from h at step - read_from h at step % h.config.layout.area ≡ at.base
      reads whole part (ReadArea name) = whole
      reads whole part ReadBeforeFree = whole
      reads whole part ReadBeforeBlock = part
      reads whole part (ReadAgain (OfArea name)) = whole
      reads whole part (ReadAgain OfFree) = whole
      reads whole part (ReadAgain OfBlock) = part
      reads whole part (ReadAgain OfPhase1) = part
      reads whole part (ReadAgain OfPhase2) = part
      reads whole part Phase1Write = part
      reads whole part Phase1Read = part
      reads whole part Phase2Write = part
      reads whole part Phase2Read = part
      reads whole part TakeLeader = part
      reads whole part SetMode = part
      reads whole part FreeLeader = part
      reads whole part ClearMode = part

-- The areas of a member's leases begin where areas do.
pub spots_begin : (i : Input) (h : HostState) (x : Step) (k : ℕ) (m : MemberState) (at : Spot) → IsMemberAt i h x k m → Contains (map (λ l. l.spot) m.leases) at → at.base % h.config.layout.area ≡ 0
spots_begin i h x k m at is there =
    let from = spot_comes x.setting.layout (calls_of (seen x) m.who) at (subst (λ ss. Contains ss at) (sym (is.stands.keeps.members k m is.there).spots) there) in
    subst (λ (c : Config). at.base % c.layout.area ≡ 0) is.stands.keeps.config (subst (λ (s : Spot). s.base % x.setting.layout.area ≡ 0) from.is (begins_at from.from.call.offset x.setting.layout.area))
