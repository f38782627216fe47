-- A ballot's number names it, what blocks accept is the value of a ballot, and the ballots of an instance that end agree.
use Rattle.sl_ballot_law.proofs.BlockLaws.{base_before, base_of, grows_base, grows_shown, low_shown, up}
use Rattle.sl_ballot_law.specs.Ballots.{BallotEnded, IsLawful, IsPhase1, IsPhase2, Mode_only, Phase, Phase_1, Phase_2, ProposesSeen}
use Rattle.sl_ballot_law.specs.Disk.{Wrote}
use Rattle.sl_ballot_law.specs.History.{History, Owner}
use Rattle.sl_ballot_law.specs.Theorems.{Agreement, BallotsFollow, IsFromBallot, NumbersNameBallots, OneWinner, ValuesAreOfBallots}
use Rattle.sl_words.proofs.OrderLaws.{by_smaller, less_or_same}
use Rattle.std.proofs.Common.{Some, ap, arith, inl, inr, refl, subst, sym, true, ℕ, ◌<◌, ◌∙◌, ◌≡◌, ◌≤◌}
use Rattle.std.proofs.lemmas.Bool.{cases_lt}

written : (h : History) (e : ℕ) → h.writes e ≡ true → Wrote h (h.writer e).id e
written h e w = record { is = w; host = refl }

-- ---- a number names one ballot

-- No phase 1 of the same number comes after one that was answered ok.
pub one_first : (h : History) → IsLawful h → (d e a : ℕ) → h.writes d ≡ true → h.writes e ≡ true → IsPhase1 h d → IsPhase1 h e
    → (h.block d).lver ≡ (h.block e).lver → (h.block d).mbal ≡ (h.block e).mbal → h.ok d ≡ Some a → d < e → ⊥
one_first h i d e a wd we p q lver mbal ok l =
    let host : (h.writer d).id ≡ (h.writer e).id = sym p.host ∙ (ap h.host_of mbal ∙ q.host) in
    let below = grows_base h i (h.writer e).id d e (record { is = wd; host = host }) (written h e we) l (inr (a, ok)) in
    let above = below.lver in
    let down = up h i e we in
    let same : (h.block d).lver ≡ (h.block (h.base e)).lver = omega arith in
    let here : (h.block (h.base e)).lver ≡ (h.block e).lver = omega arith in
    let m = below.mbal same in
    let n = q.mbal here in
    omega arith

-- Two phase 2 writes of one number are one.
two_apart : (h : History) → IsLawful h → (d e : ℕ) → h.writes d ≡ true → h.writes e ≡ true → IsPhase2 h d → IsPhase2 h e
    → (h.block d).lver ≡ (h.block e).lver → (h.block d).mbal ≡ (h.block e).mbal → d < e → ⊥
two_apart h i d e wd we p q lver mbal l =
    let x = h.base d in
    let y = h.base e in
    let above = p.last.before in
    let first : (h.block x).lver ≡ (h.block y).lver = omega (arith, p.lver, q.lver) in
    let second : (h.block x).mbal ≡ (h.block y).mbal = omega (arith, p.mbal, q.mbal) in
    elim (cases_lt x y) [
      | inl lt ↦ one_first h i x y p.ack p.last.writes q.last.writes p.one q.one first second p.acked lt
      | inr ge ↦ elim (less_or_same y x ge) [
        | inl lt ↦ one_first h i y x q.ack q.last.writes p.last.writes q.one p.one (sym first) (sym second) q.acked lt
        | inr same ↦
            let kin : h.writer d ≡ h.writer e = sym p.last.writer ∙ (ap h.writer (sym same) ∙ q.last.writer) in
            let last = q.last.last d wd kin l in
            omega arith
      ]
    ]

pub one_second : (h : History) → IsLawful h → (d e : ℕ) → h.writes d ≡ true → h.writes e ≡ true → IsPhase2 h d → IsPhase2 h e
    → (h.block d).lver ≡ (h.block e).lver → (h.block d).mbal ≡ (h.block e).mbal → d ≡ e
one_second h i d e wd we p q lver mbal = elim (cases_lt d e) [
  | inl lt ↦ absurd (two_apart h i d e wd we p q lver mbal lt)
  | inr ge ↦ elim (less_or_same e d ge) [ inl lt ↦ absurd (two_apart h i e d we wd q p (sym lver) (sym mbal) lt) | inr same ↦ sym same ]
]

-- ---- accepted values

from_base : (h : History) (e : ℕ) → h.base e < e → (h.block (h.base e)).lver ≡ (h.block e).lver → (h.block (h.base e)).bal ≡ (h.block e).bal
    → (h.block (h.base e)).inp ≡ (h.block e).inp → IsFromBallot h (h.base e) → IsFromBallot h e
from_base h e l lver bal inp f = record {
  write = f.write;
  writes = f.writes;
  two = f.two;
  by_then = let b = f.by_then in omega arith;
  lver = f.lver ∙ lver;
  mbal = f.mbal ∙ bal;
  inp = f.inp ∙ inp;
}

from_phase : (h : History) (e : ℕ) → (h.block (h.base e)).lver ≤ (h.block e).lver → h.writes e ≡ true → Phase h e → h.base e < e
    → (0 < (h.block (h.base e)).bal → IsFromBallot h (h.base e)) → 0 < (h.block e).bal → IsFromBallot h e
from_phase h e above w (Phase_1 f) l old pos = elim (cases_lt (h.block (h.base e)).lver (h.block e).lver) [
  | inl lt ↦ let z = f.one.anew lt in absurd (omega arith)
  | inr ge ↦
      let same : (h.block (h.base e)).lver ≡ (h.block e).lver = omega arith in
      let bal = f.one.bal same in
      from_base h e l same (sym bal) (sym (f.one.inp same)) (old (omega arith))
]
from_phase h e above w (Phase_2 f) l old pos = record { write = e; writes = w; two = f; by_then = omega arith; lver = refl; mbal = sym f.bal; inp = refl }
from_phase h e above w (Mode_only f) l old pos = from_base h e l (sym f.lver) (sym f.bal) (sym f.inp) (old (let bal = f.bal in omega arith))

pub accepted : ValuesAreOfBallots
accepted h i = by_smaller (λ e. h.writes e ≡ true → 0 < (h.block e).bal → IsFromBallot h e) (λ e before w.
    let l = base_before h i e w in
    from_phase h e (up h i e w) w (i.ballots.phase e w) l (λ pos. elim (base_of h i e w) [
      | inl z ↦ let none = i.register.zeros.2 in let at : (h.block (h.base e)).bal ≡ (h.block 0).bal = ap (λ (x : ℕ). (h.block x).bal) z in absurd (omega arith)
      | inr k ↦ before (h.base e) l k.is pos
    ]))

-- .. and so did each block that a read shows.
pub accepted_shown : (h : History) → IsLawful h → (r k : ℕ) → h.reads r ≡ true → h.shows r k ≡ true → 0 < (h.block (h.shown r k)).bal
    → IsFromBallot h (h.shown r k)
accepted_shown h i r k is shows pos = elim (i.register.submitted r k is shows) [
  | inl z ↦ let none = i.register.zeros.2 in let at : (h.block (h.shown r k)).bal ≡ (h.block 0).bal = ap (λ (x : ℕ). (h.block x).bal) z in absurd (omega arith)
  | inr w ↦ accepted h i (h.shown r k) w.is pos
]

-- ---- agreement

-- Phase 2's number is above 0.
pub number : (h : History) → IsLawful h → (e : ℕ) → IsPhase2 h e → 0 < (h.block e).mbal
number h i e p = let n = i.numbers (h.base e) p.last.writes p.one in let m = p.mbal in omega arith

-- The read of an ended ballot was submitted before a later ballot's phase 1 was answered.
apart : (h : History) → IsLawful h → (n : ℕ) (s v : Owner) (t : ℕ) (b : BallotEnded h s n v t) (e : ℕ) → (p : IsPhase2 h e)
    → (h.block e).lver ≡ n → (h.block b.write).mbal < (h.block e).mbal → b.read < p.ack
apart h i n s v t b e p lver m = elim (cases_lt b.read p.ack) [
  | inl lt ↦ lt
  | inr ge ↦
      let k = (h.writer (h.base e)).id in
      let below = grows_shown h i k (h.base e) p.ack b.read (written h (h.base e) p.last.writes) p.acked b.reads (b.clean.whole k) ge in
      let x = h.shown b.read k in
      let above = below.lver in
      let down = b.clean.lver k in
      let a = p.lver in
      let c = p.mbal in
      let at : (h.block (h.base e)).lver ≡ (h.block x).lver = omega arith in
      let here : (h.block x).lver ≡ n = omega arith in
      let more = below.mbal at in
      let less = b.clean.mbal k here in
      absurd (omega arith)
]

abbrev pub Follows : History → ℕ → Owner → ℕ → ℕ → Type 0
Follows h n v low m = (e : ℕ) → h.writes e ≡ true → IsPhase2 h e → (h.block e).lver ≡ n → (h.block e).mbal ≡ m → low < m → (h.block e).inp ≡ v

-- A later ballot that takes over a value takes over v.
follows_bound : (h : History) → IsLawful h → (n : ℕ) (s v : Owner) (t : ℕ) (b : BallotEnded h s n v t) (m e : ℕ)
    → ((k : ℕ) → k < m → Follows h n v (h.block b.write).mbal k) → h.writes e ≡ true → (p : IsPhase2 h e) → (h.block e).lver ≡ n
    → (h.block e).mbal ≡ m → (h.block b.write).mbal ≤ (h.block (h.shown p.read (h.writer b.write).id)).bal
    → (h.block (h.shown p.read (h.writer b.write).id)).lver ≡ n → ProposesSeen h e p.read n → (h.block e).inp ≡ v
follows_bound h i n s v t b m e before w p lver mbal least mine q =
    let y = h.shown p.read q.host in
    let whole = p.clean.whole q.host in
    let from = accepted_shown h i p.read q.host p.reads whole q.bal in
    let early = i.register.earlier p.read q.host p.reads whole in
    let by_then = from.by_then in
    let late = p.before in
    let most = q.most (h.writer b.write).id mine in
    let low = low_shown h i p.read q.host p.reads whole in
    let high = p.clean.mbal q.host (q.lver ∙ sym lver) in
    let its_mbal = from.mbal in
    let its_lver : (h.block from.write).lver ≡ n = from.lver ∙ q.lver in
    let taken : (h.block e).inp ≡ (h.block from.write).inp = q.inp ∙ sym from.inp in
    elim (cases_lt (h.block from.write).mbal m) [
      | inl lt ↦ elim (cases_lt (h.block b.write).mbal (h.block from.write).mbal) [
        | inl more ↦ taken ∙ before (h.block from.write).mbal lt from.write from.writes from.two its_lver refl more
        | inr ge ↦
            let same = one_second h i from.write b.write from.writes b.writes from.two b.two (its_lver ∙ sym b.lver) (omega arith) in
            taken ∙ (ap (λ (x : ℕ). (h.block x).inp) same ∙ b.value)
      ]
      | inr ge ↦
          let same = one_second h i from.write e from.writes w from.two p (its_lver ∙ sym lver) (omega arith) in
          absurd (omega arith)
    ]

-- Each later ballot of the instance has the value of one that ended.
pub follows : (h : History) → IsLawful h → (n : ℕ) (s v : Owner) (t : ℕ) (b : BallotEnded h s n v t) (m : ℕ)
    → Follows h n v (h.block b.write).mbal m
follows h i n s v t b = by_smaller (λ m. Follows h n v (h.block b.write).mbal m) (λ m before e w p lver mbal l.
    let k = (h.writer b.write).id in
    let later = apart h i n s v t b e p lver (omega arith) in
    let after = p.after in
    let first = b.after in
    let below = grows_shown h i k b.write b.ack p.read (written h b.write b.writes) b.acked p.reads (p.clean.whole k) (omega arith) in
    let y = h.shown p.read k in
    let above = below.lver in
    let down = p.clean.lver k in
    let at = b.lver in
    let same : (h.block b.write).lver ≡ (h.block y).lver = omega arith in
    let mine : (h.block y).lver ≡ n = omega arith in
    let bal = below.bal same in
    let full = b.two.bal in
    let pos = number h i b.write b.two in
    elim p.value [
      | inl q ↦ let none = q.none k (mine ∙ sym lver) in absurd (omega arith)
      | inr q ↦ follows_bound h i n s v t b m e before w p lver mbal (omega arith) mine (subst (λ (x : ℕ). ProposesSeen h e p.read x) lver q)
    ])

-- The ballots of an instance that end, end with one value.
pub agreement : Agreement
agreement h i n s u v w t x b c = elim (cases_lt (h.block b.write).mbal (h.block c.write).mbal) [
  | inl lt ↦ sym (follows h i n s v t b (h.block c.write).mbal c.write c.writes c.two c.lver refl lt) ∙ c.value
  | inr ge ↦ elim (less_or_same (h.block c.write).mbal (h.block b.write).mbal ge) [
    | inl lt ↦ sym b.value ∙ follows h i n u w x c (h.block b.write).mbal b.write b.writes b.two b.lver refl lt
    | inr same ↦
        let one = one_second h i b.write c.write b.writes c.writes b.two c.two (b.lver ∙ sym c.lver) (sym same) in
        sym b.value ∙ (ap (λ (y : ℕ). (h.block y).inp) one ∙ c.value)
  ]
]

pub numbers_name : NumbersNameBallots
numbers_name h i d e p q lver mbal = (λ one two a ok l. one_first h i d e a p q one two lver mbal ok l, λ one two. one_second h i d e p q one two lver mbal)

pub ballots_follow : BallotsFollow
ballots_follow h i n s v t b e w two lver l = follows h i n s v t b (h.block e).mbal e w two lver refl l

pub one_winner : OneWinner
one_winner h i n s u t x b c = agreement h i n s u s u t x b c
