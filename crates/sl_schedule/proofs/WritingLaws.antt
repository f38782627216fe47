-- The last line of a report is what is written count by count.
use Rattle.sl_report.specs.Reports.{Counts, end_line}
use Rattle.sl_schedule.specs.CountTexts.{count_text}
use Rattle.sl_text.specs.Forms.{as_bytes, spaced}
use Rattle.std.proofs.Common.{List, [], ap, codes, sym, ℕ, ◌++◌, ◌∙◌, ◌∷◌, ◌≡◌}
use Rattle.std.proofs.lemmas.List.{append-nil, append_assoc}
use Rattle.std.specs.Prelude.{decimal}

-- A text in front of a last one, piece by piece.
regrouped : (e p q r s t z : List ℕ) → (e ++ p ++ q ++ r ++ s ++ t) ++ z ≡ e ++ (p ++ (q ++ (r ++ (s ++ (t ++ z)))))
regrouped e p q r s t z =
    append_assoc (e ++ p ++ q ++ r ++ s) t z ∙ append_assoc (e ++ p ++ q ++ r) s (t ++ z) ∙ append_assoc (e ++ p ++ q) r (s ++ (t ++ z))
    ∙ append_assoc (e ++ p) q (r ++ (s ++ (t ++ z))) ∙ append_assoc e p (q ++ (r ++ (s ++ (t ++ z))))

-- A word and a count in front of other words.
count_in_front : (w a rest z : List ℕ) → (32 ∷ (w ++ 32 ∷ (a ++ rest))) ++ z ≡ (32 ∷ w ++ 32 ∷ a) ++ (rest ++ z)
count_in_front w a rest z =
    append_assoc (32 ∷ w) (32 ∷ (a ++ rest)) z ∙ ap (λ t. (32 ∷ w) ++ 32 ∷ t) (append_assoc a rest z) ∙ sym (append_assoc (32 ∷ w) (32 ∷ a) (rest ++ z))

-- Whatever the words and the counts' texts are.
counts_spaced : (e u a v b w c x d y f : List ℕ)
    → as_bytes (spaced (e ∷ u ∷ a ∷ v ∷ b ∷ w ∷ c ∷ x ∷ d ∷ y ∷ f ∷ []) ∷ [])
    ≡ e ++ ((32 ∷ u ++ 32 ∷ a) ++ ((32 ∷ v ++ 32 ∷ b) ++ ((32 ∷ w ++ 32 ∷ c) ++ ((32 ∷ x ++ 32 ∷ d) ++ ((32 ∷ y ++ 32 ∷ f) ++ 10 ∷ [])))))
counts_spaced e u a v b w c x d y f =
    let fourth : List ℕ = 32 ∷ (y ++ 32 ∷ f) in
    let third : List ℕ = 32 ∷ (x ++ 32 ∷ (d ++ fourth)) in
    let second : List ℕ = 32 ∷ (w ++ 32 ∷ (c ++ third)) in
    let first : List ℕ = 32 ∷ (v ++ 32 ∷ (b ++ second)) in
    let others : List ℕ = 32 ∷ (u ++ 32 ∷ (a ++ first)) in
    let feed : List ℕ = 10 ∷ [] in
    append-nil ((e ++ others) ++ feed) ∙ append_assoc e others feed
    ∙ ap (λ t. e ++ t) (count_in_front u a first feed
    ∙ ap (λ t. (32 ∷ u ++ 32 ∷ a) ++ t) (count_in_front v b second feed
    ∙ ap (λ t. (32 ∷ v ++ 32 ∷ b) ++ t) (count_in_front w c third feed
    ∙ ap (λ t. (32 ∷ w ++ 32 ∷ c) ++ t) (count_in_front x d fourth feed))))

-- The words of the last line, count by count.
abbrev pub counted_end : Counts → List ℕ
counted_end k =
    codes "end" ++ count_text (codes "events") k.events ++ count_text (codes "calls") k.calls ++ count_text (codes "grants") k.grants
    ++ count_text (codes "refusals") k.refusals ++ count_text (codes "conflicts") k.conflicts

pub end_line_counted : (out line : List ℕ) (k : Counts) → line ≡ counted_end k → out ++ line ++ 10 ∷ [] ≡ out ++ as_bytes (end_line k ∷ [])
end_line_counted out line k is =
    append_assoc out line (10 ∷ [])
    ∙ ap (λ t. out ++ t) (ap (λ t. t ++ 10 ∷ []) is
    ∙ regrouped (codes "end") (count_text (codes "events") k.events) (count_text (codes "calls") k.calls)
    (count_text (codes "grants") k.grants) (count_text (codes "refusals") k.refusals) (count_text (codes "conflicts") k.conflicts) (10 ∷ [])
    ∙ sym (counts_spaced (codes "end") (codes "events") (decimal k.events) (codes "calls") (decimal k.calls) (codes "grants") (decimal k.grants)
    (codes "refusals") (decimal k.refusals) (codes "conflicts") (decimal k.conflicts)))
