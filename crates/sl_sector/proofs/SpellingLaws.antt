-- Reading gives a record exactly where the bytes spell it, for any digest of 32 bytes.
use Rattle.sl_sector.proofs.BlockLaws.{block_again, block_fits, block_text, length-block}
use Rattle.sl_sector.proofs.ByteLaws.{IsBytes, length-padded_text, padded_from_parts, prefix_of_zeros, zeros_from_prefix}
use Rattle.sl_sector.proofs.DeltaLaws.{delta_again, delta_fits, delta_text, length-delta}
use Rattle.sl_sector.proofs.FieldLaws.{Begins}
use Rattle.sl_sector.proofs.LeaderLaws.{leader_again, leader_fits, leader_text, length-leader, length-pair_leader, pair_leader_again, pair_leader_text}
use Rattle.sl_sector.proofs.PairLaws.{length-pair, pair_again, pair_fits, pair_text}
use Rattle.sl_sector.proofs.RequestLaws.{length-request, request_again, request_fits, request_text}
use Rattle.sl_sector.proofs.RuleLaws.{Hold, ensured, rules_hold}
use Rattle.sl_sector.proofs.ValueLaws.{length-value, length-value_bytes, value_again, value_fits, value_text}
use Rattle.sl_sector.specs.FieldBytes.{u32_at}
use Rattle.sl_sector.specs.Records.{IsRecord}
use Rattle.sl_sector.specs.SectorLayouts.{IsDigest, IsSectorSize, Spells, as_record, block_of, block_rules, body_of, check_of, checked_part, decoded, delta_of, delta_rules, field_bytes, fields_end, fields_of, leader_of, leader_rules, magic, padding_from, pair_of, pair_rules, request_of, request_rules, spelling, under_rules, value_of, value_rules}
use Rattle.sl_sector.specs.declared.sector.Bad.TheVariants.{BadCheck, BadMagic, BadPad}
use Rattle.sl_sector.specs.declared.sector.Bad.{Bad}
use Rattle.sl_sector.specs.declared.sector.Rec.TheVariants.{BlockIs, DeltaIs, LeaderIs, PairIs, PairLeaderIs, RequestIs, ValueIs}
use Rattle.sl_sector.specs.declared.sector.Rec.{Rec}
use Rattle.sl_text.specs.Names.{padded_text}
use Rattle.sl_words.proofs.WordLaws.{bind_ok}
use Rattle.sl_words.specs.Results.{ensure, ◌>>=◌}
use Rattle.std.proofs.Common.{Bool, Err, List, None, Ok, Option, Result, Some, ap, arith, cond, drop, eqb, false, inl, inr, length, ltb, refl, subst, sym, take, ℕ, ◌++◌, ◌+◌, ◌-◌, ◌≡◌, ◌≤◌, ◌∙◌}
use Rattle.std.proofs.Math.ListN.{replicate}
use Rattle.std.proofs.lemmas.Bool.{cases_Bool, cases_lt, cond-false, eqb-true, le-ltb, lt-ltb}
use Rattle.std.proofs.lemmas.List.{append_assoc, drop_at, length-append, length-drop, length-replicate, length-take, length-take-le, take-append-drop, take-take, take_at}
use Rattle.std.proofs.lemmas.Slice.Eq.{bytes_eq-Decides}
use Rattle.std.specs.List.{position, prefix_len}
use Rattle.std.specs.Prelude.{bytes_eq, not}

-- ---- what is read is spelled so

-- What came out of one kind.
wrapped : {A : Type 0} (wrap : A → Rec) (read : Result A Bad) (r : Rec) → as_record wrap read ≡ Ok r → (a : A) × (read ≡ Ok a) × (wrap a ≡ r)
wrapped wrap (Ok a) r h = (a, refl, cc)
wrapped wrap (Err e) r h = absurd cc

-- The rules of the kind hold, and the record is what the fields give.
kind_read : {A : Type 0} (wrap : A → Rec) (rules : List (ℕ × Bool)) (a : A) (r : Rec) → as_record wrap (under_rules rules a) ≡ Ok r → Hold rules × (wrap a ≡ r)
kind_read wrap rules a r h =
    let w = wrapped wrap (under_rules rules a) r h in
    let held = rules_hold rules a w.0 w.1 in
    (held.0, ap wrap held.1 ∙ w.2)

-- The record that the fields give meets its rules, and the bytes begin with its text.
record Found (bs : List ℕ) (r : Rec) : Type 0 where
  rules : IsRecord r
  text : take (fields_end r) bs ≡ field_bytes r
  short : fields_end r ≤ 386

-- Of the delta record.
delta_found : (bs : List ℕ) → IsBytes bs → 512 ≤ length bs → take 4 bs ≡ magic → u32_at bs 4 ≡ 1 → Hold (delta_rules bs) → Found bs (DeltaIs (delta_of bs))
delta_found bs fits long begins kind holds = record {
  rules = delta_fits bs fits long holds;
  text = delta_text bs fits long begins kind holds;
  short = omega arith;
}

-- Of the leader.
leader_found : (bs : List ℕ) → IsBytes bs → 512 ≤ length bs → take 4 bs ≡ magic → u32_at bs 4 ≡ 2 → Hold (leader_rules bs) → Found bs (LeaderIs (leader_of bs))
leader_found bs fits long begins kind holds = record {
  rules = leader_fits bs holds;
  text = leader_text bs fits long begins kind holds;
  short = omega arith;
}

-- Of the block.
block_found : (bs : List ℕ) → IsBytes bs → 512 ≤ length bs → take 4 bs ≡ magic → u32_at bs 4 ≡ 3 → Hold (block_rules bs) → Found bs (BlockIs (block_of bs))
block_found bs fits long begins kind holds = record {
  rules = block_fits bs holds;
  text = block_text bs fits long begins kind holds;
  short = omega arith;
}

-- Of the request.
request_found : (bs : List ℕ) → IsBytes bs → 512 ≤ length bs → take 4 bs ≡ magic → u32_at bs 4 ≡ 4 → Hold (request_rules bs) → Found bs (RequestIs (request_of bs))
request_found bs fits long begins kind holds = record {
  rules = request_fits bs holds;
  text = request_text bs fits long begins kind;
  short = omega arith;
}

-- Of the value, whose fields end behind its bytes.
value_found : (bs : List ℕ) → IsBytes bs → 512 ≤ length bs → take 4 bs ≡ magic → u32_at bs 4 ≡ 5 → Hold (value_rules bs) → Found bs (ValueIs (value_of bs))
value_found bs fits long begins kind holds =
    let rules = value_fits bs fits long holds in
    record {
      rules = rules;
      text = ap (λ (n : ℕ). take (32 + n) bs) (length-value_bytes bs long holds) ∙ value_text bs fits long begins kind holds;
      short = omega (arith, rules.bytes.0);
    }

-- Of the block of a pair.
pair_found : (bs : List ℕ) → IsBytes bs → 512 ≤ length bs → take 4 bs ≡ magic → u32_at bs 4 ≡ 6 → Hold (pair_rules bs) → Found bs (PairIs (pair_of bs))
pair_found bs fits long begins kind holds = record {
  rules = pair_fits bs holds;
  text = pair_text bs fits long begins kind holds;
  short = omega arith;
}

-- Of the leader of an area with pairs.
pair_leader_found : (bs : List ℕ) → IsBytes bs → 512 ≤ length bs → take 4 bs ≡ magic → u32_at bs 4 ≡ 7 → Hold (leader_rules bs)
    → Found bs (PairLeaderIs (leader_of bs))
pair_leader_found bs fits long begins kind holds = record {
  rules = leader_fits bs holds;
  text = pair_leader_text bs fits long begins kind holds;
  short = omega arith;
}

-- Of whichever kind the bytes name.
fields_found : (bs : List ℕ) (k : ℕ) (r : Rec) → IsBytes bs → 512 ≤ length bs → take 4 bs ≡ magic → u32_at bs 4 ≡ k → fields_of k bs ≡ Ok r → Found bs r
unfolding fields_of
fields_found bs k r fits long begins kind h =
    elim (cases_Bool (eqb k 1)) [
      | inl e ↦
          let is = eqb-true k 1 e in
          let q = kind_read _ (delta_rules bs) (delta_of bs) r (ap (λ (n : ℕ). fields_of n bs) (sym is) ∙ h) in
          subst (Found bs) q.1 (delta_found bs fits long begins (kind ∙ is) q.0)
      | inr e1 ↦
          elim (cases_Bool (eqb k 2)) [
            | inl e ↦
                let is = eqb-true k 2 e in
                let q = kind_read _ (leader_rules bs) (leader_of bs) r (ap (λ (n : ℕ). fields_of n bs) (sym is) ∙ h) in
                subst (Found bs) q.1 (leader_found bs fits long begins (kind ∙ is) q.0)
            | inr e2 ↦
                elim (cases_Bool (eqb k 3)) [
                  | inl e ↦
                      let is = eqb-true k 3 e in
                      let q = kind_read _ (block_rules bs) (block_of bs) r (ap (λ (n : ℕ). fields_of n bs) (sym is) ∙ h) in
                      subst (Found bs) q.1 (block_found bs fits long begins (kind ∙ is) q.0)
                  | inr e3 ↦
                      elim (cases_Bool (eqb k 4)) [
                        | inl e ↦
                            let is = eqb-true k 4 e in
                            let q = kind_read _ (request_rules bs) (request_of bs) r (ap (λ (n : ℕ). fields_of n bs) (sym is) ∙ h) in
                            subst (Found bs) q.1 (request_found bs fits long begins (kind ∙ is) q.0)
                        | inr e4 ↦
                            elim (cases_Bool (eqb k 5)) [
                              | inl e ↦
                                  let is = eqb-true k 5 e in
                                  let q = kind_read _ (value_rules bs) (value_of bs) r (ap (λ (n : ℕ). fields_of n bs) (sym is) ∙ h) in
                                  subst (Found bs) q.1 (value_found bs fits long begins (kind ∙ is) q.0)
                              | inr e5 ↦
                                  elim (cases_Bool (eqb k 6)) [
                                    | inl e ↦
                                        let is = eqb-true k 6 e in
                                        let q = kind_read _ (pair_rules bs) (pair_of bs) r (ap (λ (n : ℕ). fields_of n bs) (sym is) ∙ h) in
                                        subst (Found bs) q.1 (pair_found bs fits long begins (kind ∙ is) q.0)
                                    | inr e6 ↦
                                        elim (cases_Bool (eqb k 7)) [
                                          | inl e ↦
                                              let is = eqb-true k 7 e in
                                              let q = kind_read _ (leader_rules bs) (leader_of bs) r (ap (λ (n : ℕ). fields_of n bs) (sym is) ∙ h) in
                                              subst (Found bs) q.1 (pair_leader_found bs fits long begins (kind ∙ is) q.0)
                                          | inr e7 ↦
                                              absurd (grind arith)
                                        ]
                                  ]
                            ]
                      ]
                ]
          ]
    ]

-- Padding that passed: no place was found.
nothing_found : (at : ℕ) (found : Option ℕ) → elim found as (λ _. Result (Unit {0}) Bad) [ None ↦ Ok tt | Some k ↦ Err (BadPad (at + k)) ] ≡ Ok tt → found ≡ None
nothing_found at None h = refl
nothing_found at (Some k) h = absurd cc

-- Then none is within the list.
no_position : (m n : ℕ) → cond (ltb m n) (Some m) None ≡ None → n ≤ m
no_position m n h =
    elim (cases_lt m n) [
      | inl lt ↦ absurd (let e = rw (lt-ltb m n lt) at h in cc)
      | inr le ↦ le
    ]

-- No place, no refusal.
nothing_there : (at : ℕ) (found : Option ℕ) → found ≡ None → elim found as (λ _. Result (Unit {0}) Bad) [ None ↦ Ok tt | Some k ↦ Err (BadPad (at + k)) ] ≡ Ok tt
nothing_there at None h = refl
nothing_there at (Some k) h = absurd cc

-- No byte that isn't zero: only zeros.
padding_zeros : (at : ℕ) (bs : List ℕ) → padding_from at bs ≡ Ok tt → drop at bs ≡ replicate (length bs - at) 0
padding_zeros at bs h =
    let rest = drop at bs in
    let none = nothing_found at (position (λ b. not (eqb b 0)) rest) h in
    let all : length rest ≤ prefix_len (λ b. not (not (eqb b 0))) rest = no_position _ _ none in
    zeros_from_prefix rest all ∙ ap (λ (n : ℕ). replicate n 0) (length-drop at bs)

-- The five tests, each passed.
record Passed (digest : List ℕ → List ℕ) (bs : List ℕ) (r : Rec) : Type 0 where
  begins : take 4 bs ≡ magic
  fields : fields_of (u32_at bs 4) bs ≡ Ok r
  padding : padding_from (fields_end r) (body_of bs) ≡ Ok tt
  check : check_of bs ≡ digest (body_of bs)

-- Reading passed each test.
passed : (digest : List ℕ → List ℕ) (bs : List ℕ) (r : Rec) → decoded digest bs ≡ Ok r → Passed digest bs r
unfolding decoded
passed digest bs r h =
    let a = ensured (bytes_eq (take 4 bs) magic) BadMagic _ r h in
    let b = bind_ok (fields_of (u32_at bs 4) bs) (λ s. padding_from (fields_end s) (body_of bs) >>= λ _. ensure (bytes_eq (check_of bs) (digest (body_of bs))) BadCheck >>= λ _. Ok s) r a.1 in
    let c = bind_ok (padding_from (fields_end b.0) (body_of bs)) (λ _. ensure (bytes_eq (check_of bs) (digest (body_of bs))) BadCheck >>= λ _. Ok b.0) r b.2 in
    let d = ensured (bytes_eq (check_of bs) (digest (body_of bs))) BadCheck (Ok b.0) r c.2 in
    let same : b.0 ≡ r = cc in
    record {
      begins = (bytes_eq-Decides (take 4 bs) magic).0 a.0;
      fields = rw (← same) b.1;
      padding = rw (← same) c.1;
      check = (bytes_eq-Decides (check_of bs) (digest (body_of bs))).0 d.0;
    }

-- What is read is spelled so.
pub spelled : (digest : List ℕ → List ℕ) (bs : List ℕ) (r : Rec) → IsBytes bs → IsSectorSize (length bs) → decoded digest bs ≡ Ok r → Spells digest bs r
unfolding spelling checked_part
spelled digest bs r fits size h =
    let p = passed digest bs r h in
    let f = fields_found bs (u32_at bs 4) r fits size.0 p.begins refl p.fields in
    let inside : fields_end r ≤ length bs - 32 = omega (arith, f.short, size.0) in
    let text : take (fields_end r) (body_of bs) ≡ field_bytes r = take-take (fields_end r) (length bs - 32) bs inside ∙ f.text in
    let long : length (body_of bs) ≡ length bs - 32 = omega (arith, length-take (length bs - 32) bs) in
    let text_long : length (field_bytes r) ≡ fields_end r = ap length (sym text) ∙ length-take-le (fields_end r) (body_of bs) (omega (arith, long, inside)) in
    let zeros = padding_zeros (fields_end r) (body_of bs) p.padding in
    let body : body_of bs ≡ padded_text (length bs - 32) (field_bytes r) =
    padded_from_parts (field_bytes r) (body_of bs) (fields_end r) text_long text zeros ∙ ap (λ (n : ℕ). padded_text n (field_bytes r)) long in (
      f.rules,
      sym (take-append-drop (length bs - 32) bs) ∙ ap (λ (x : List ℕ). body_of bs ++ x) p.check ∙ ap (λ (x : List ℕ). x ++ digest x) body,
    )

-- ---- what is spelled is read

-- The fields end where the text does.
pub length-field_bytes : (r : Rec) → IsRecord r → length (field_bytes r) ≡ fields_end r
length-field_bytes (DeltaIs d) is = length-delta d is
length-field_bytes (LeaderIs l) is = length-leader l is
length-field_bytes (BlockIs b) is = length-block b
length-field_bytes (RequestIs q) is = length-request q
length-field_bytes (ValueIs v) is = length-value v
length-field_bytes (PairIs p) is = length-pair p is
length-field_bytes (PairLeaderIs l) is = length-pair_leader l is

-- No text is longer than a delta record.
pub fields_end_short : (r : Rec) → IsRecord r → fields_end r ≤ 386
fields_end_short (DeltaIs d) is = omega arith
fields_end_short (LeaderIs l) is = omega arith
fields_end_short (BlockIs b) is = omega arith
fields_end_short (RequestIs q) is = omega arith
fields_end_short (ValueIs v) is = omega (arith, is.bytes.0)
fields_end_short (PairIs p) is = omega arith
fields_end_short (PairLeaderIs l) is = omega arith

-- A record's text is read as that record, whichever kind it is.
fields_again : (bs : List ℕ) (r : Rec) → IsRecord r → Begins bs (field_bytes r) (fields_end r) → (take 4 bs ≡ magic) × (fields_of (u32_at bs 4) bs ≡ Ok r)
fields_again bs (DeltaIs d) is begins = delta_again bs d is begins
fields_again bs (LeaderIs l) is begins = leader_again bs l is begins
fields_again bs (BlockIs b) is begins = block_again bs b is begins
fields_again bs (RequestIs q) is begins = request_again bs q is begins
fields_again bs (ValueIs v) is begins = value_again bs v is begins
fields_again bs (PairIs p) is begins = pair_again bs p is begins
fields_again bs (PairLeaderIs l) is begins = pair_leader_again bs l is begins

-- All but the check is as long as it should be.
pub length-checked_part : (size : ℕ) (r : Rec) → 512 ≤ size → IsRecord r → length (checked_part size r) ≡ size - 32
unfolding checked_part
length-checked_part size r long is =
    let whole = length-field_bytes r is in
    let short = fields_end_short r is in
    length-padded_text (size - 32) (field_bytes r) (omega (arith, whole, short, long))

-- A spelling has the size that was asked for.
pub length-spelling : (digest : List ℕ → List ℕ) → IsDigest digest → (size : ℕ) (r : Rec) → IsSectorSize size → IsRecord r → length (spelling digest size r) ≡ size
unfolding spelling
length-spelling digest d size r fits is =
    let front = length-checked_part size r fits.0 is in
    let back = d.long (checked_part size r) in
    omega (arith, length-append (checked_part size r) (digest (checked_part size r)), front, back, fits.0)

-- The text stands in front of the zeros, and of the check.
front_of_spelling : (digest : List ℕ → List ℕ) (size : ℕ) (r : Rec) → IsRecord r → take (fields_end r) (spelling digest size r) ≡ field_bytes r
unfolding spelling checked_part padded_text
front_of_spelling digest size r is =
    let zeros = replicate (size - 32 - length (field_bytes r)) 0 in
    ap (take (fields_end r)) (append_assoc (field_bytes r) zeros (digest (field_bytes r ++ zeros)))
    ∙ take_at (field_bytes r) (zeros ++ digest (field_bytes r ++ zeros)) (fields_end r) (length-field_bytes r is)

-- Zeros are no refusal.
padding_of_zeros : (at n : ℕ) (bs : List ℕ) → drop at bs ≡ replicate n 0 → padding_from at bs ≡ Ok tt
padding_of_zeros at n bs zeros =
    let len : ltb (prefix_len (λ b. not (not (eqb b 0))) (replicate n 0)) (length (replicate n 0)) ≡ false =
    le-ltb _ _ (omega (arith, prefix_of_zeros n, length-replicate {A = ℕ} n 0)) in
    let none : position (λ b. not (eqb b 0)) (drop at bs) ≡ None = ap (position (λ b. not (eqb b 0))) zeros ∙ cond-false _ _ _ len in
    nothing_there at _ none

-- Nor are those behind the fields.
padding_of_checked : (size : ℕ) (r : Rec) → IsRecord r → padding_from (fields_end r) (checked_part size r) ≡ Ok tt
unfolding checked_part padded_text
padding_of_checked size r is =
    padding_of_zeros (fields_end r) (size - 32 - length (field_bytes r)) _ (drop_at (field_bytes r) (replicate (size - 32 - length (field_bytes r)) 0) (fields_end r) (length-field_bytes r is))

-- The two parts of a spelling.
spelling_parts : (digest : List ℕ → List ℕ) → IsDigest digest → (size : ℕ) (r : Rec) → IsSectorSize size → IsRecord r
    → (body_of (spelling digest size r) ≡ checked_part size r) × (check_of (spelling digest size r) ≡ digest (checked_part size r))
unfolding spelling
spelling_parts digest d size r fits is =
    let whole : length (checked_part size r ++ digest (checked_part size r)) - 32 ≡ length (checked_part size r) =
    omega (arith, length-append (checked_part size r) (digest (checked_part size r)), d.long (checked_part size r)) in
    (take_at (checked_part size r) (digest (checked_part size r)) _ (sym whole), drop_at (checked_part size r) (digest (checked_part size r)) _ (sym whole))

-- A spelling is read as the record that it spells.
pub read_again : (digest : List ℕ → List ℕ) → IsDigest digest → (size : ℕ) (r : Rec) → IsSectorSize size → IsRecord r → decoded digest (spelling digest size r) ≡ Ok r
unfolding decoded
read_again digest d size r fits is =
    let bs = spelling digest size r in
    let long = length-spelling digest d size r fits is in
    let begins : Begins bs (field_bytes r) (fields_end r) = record { long = length-field_bytes r is; front = front_of_spelling digest size r is } in
    let fields = fields_again bs r is begins in
    let parts = spelling_parts digest d size r fits is in
    rw (parts.0, parts.1, (bytes_eq-Decides (take 4 bs) magic).1 fields.0, fields.1, padding_of_checked size r is, (bytes_eq-Decides (digest (checked_part size r)) (digest (checked_part size r))).1 refl) refl
