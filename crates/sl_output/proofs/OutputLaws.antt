-- What was put into a sink, one piece after another.
use Rattle.sl_book.proofs.Givens.{entries_last}
use Rattle.sl_book.specs.Logs.{entries}
use Rattle.sl_io.specs.FaultCauses.{Rose}
use Rattle.sl_output.specs.Outputs.{IsPut}
use Rattle.sl_output.specs.Pieces.{Piece, text_of}
use Rattle.std.proofs.Common.{List, Option, [], ap, append_assoc, append-nil, arith, false, subst, sym, take, true, ℕ, ◌++◌, ◌∙◌, ◌∷◌, ◌≡◌, ◌≤◌}
use Rattle.std.proofs.KnownBytes.{Appends-nil, Appends-trans}
use Rattle.std.proofs.lemmas.List.Folds.{concat-append}
use Rattle.std.proofs.lemmas.List.{take-append-drop}
use Rattle.std.specs.Io.KnownBytes.{Appends}
use Rattle.std.specs.List.{concat}
use Rattle.std.specs.Prelude.{drop}

-- one piece more
pub text_last : (ps : List Piece) (by : ℕ) (text : List ℕ) → text_of (ps ++ record { by = by; entry = text } ∷ []) ≡ text_of ps ++ text
text_last ps by text =
    ap concat (entries_last ps (record { by = by; entry = text })) ∙ concat-append (entries ps) (text ∷ []) ∙ ap (λ (l : List ℕ). concat (entries ps) ++ l) (append-nil text)

pub put_nothing : (before now : Option (List ℕ)) (faults later : ℕ) (ps : List Piece) → now ≡ before → later ≡ faults → ps ≡ [] → IsPut before now faults later ps false
put_nothing before now faults later ps same count none = record {
  on = omega (arith, count);
  took = subst (λ (l : List Piece). Appends before now (text_of l)) (sym none) (subst (λ (o : Option (List ℕ)). Appends before o []) (sym same) (Appends-nil before));
}

-- all was written
pub put_all : (before mid now : Option (List ℕ)) (faults f g by : ℕ) (ps : List Piece) (text : List ℕ) → IsPut before mid faults f ps false → Appends mid now text → f ≤ g
    → IsPut before now faults g (ps ++ record { by = by; entry = text } ∷ []) false
put_all before mid now faults f g by ps text put all on = record {
  on = let less = put.on in omega (arith, less, on);
  took = subst (Appends before now) (sym (text_last ps by text)) (Appends-trans before mid now (text_of ps) text put.took all);
}

-- a front of the piece was written, and the sink had a fault
pub put_part : (before mid now : Option (List ℕ)) (faults f g by n : ℕ) (ps : List Piece) (text : List ℕ) → IsPut before mid faults f ps false → Appends mid now (take n text) → f ≤ g → Rose f g
    → IsPut before now faults g (ps ++ record { by = by; entry = text } ∷ []) true
put_part before mid now faults f g by n ps text put part on rose = record {
  on = let less = put.on in omega (arith, less, on);
  took = record {
    part = text_of ps ++ take n text;
    begins = (drop n text, append_assoc (text_of ps) (take n text) (drop n text) ∙ ap (λ (l : List ℕ). text_of ps ++ l) (take-append-drop n text) ∙ sym (text_last ps by text));
    took = Appends-trans before mid now (text_of ps) (take n text) put.took part;
    rose = let less = put.on in omega (arith, less, rose);
  };
}

-- nothing is written any more
pub put_none : (before now : Option (List ℕ)) (faults f by : ℕ) (ps : List Piece) (text : List ℕ) → IsPut before now faults f ps true
    → IsPut before now faults f (ps ++ record { by = by; entry = text } ∷ []) true
put_none before now faults f by ps text put = record {
  on = put.on;
  took = record {
    part = put.took.part;
    begins = (put.took.begins.0 ++ text, sym (append_assoc put.took.part put.took.begins.0 text) ∙ ap (λ (l : List ℕ). l ++ text) put.took.begins.1 ∙ sym (text_last ps by text));
    took = put.took.took;
    rose = put.took.rose;
  };
}
