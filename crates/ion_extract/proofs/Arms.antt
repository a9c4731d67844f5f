-- What one serialization determines of two bodies whose kinds are known.
use Rattle.std.proofs.Common.{◌≡◌, ◌∙◌, true, List, map, refl, sym, ap, subst}
use Rattle.ion_values.specs.declared.value.Value.{Value}
use Rattle.ion_values.specs.declared.value.Field.{Field}
use Rattle.ion_values.specs.declared.value.Body.{Body, out-Body, out-roll-Body, roll-Body, roll-out-Body}
use Rattle.ion_values.specs.declared.value.Body.TheOpen.{Body-F}
use Rattle.ion_values.specs.declared.value.Body.TheVariants as body
use Rattle.ion_values.specs.Equivalent.{is_equivalent_body}
use Rattle.hash_model.specs.Serialize.{field_hash, in_order, serialize}
use Rattle.ion_extract.specs.Laws.{BodiesAgree}

abbrev Equal : Body → Body → Type 0
Equal a b = is_equivalent_body a b ≡ true

abbrev pub Agree : Body → Body → Type 0
Agree a b = BodiesAgree (out-Body a) (out-Body b) (is_equivalent_body a b ≡ true)

level_is : (a : Body) (x : Body-F Body Field Value) → a ≡ roll-Body x → out-Body a ≡ x
level_is a x e = ap out-Body e ∙ out-roll-Body x

back : (a : Body) (x : Body-F Body Field Value) → out-Body a ≡ x → a ≡ roll-Body x
back a x e = sym (roll-out-Body a) ∙ ap roll-Body e

at_both : (a b : Body) (x y : Body-F Body Field Value) → a ≡ roll-Body x → b ≡ roll-Body y → Agree a b → BodiesAgree x y (Equal a b)
at_both a b x y is are told =
    let left : Body-F Body Field Value → Type 0 = λ z. BodiesAgree z (out-Body b) (Equal a b) in
    let right : Body-F Body Field Value → Type 0 = λ z. BodiesAgree x z (Equal a b) in
    subst right (level_is b y are) (subst left (level_is a x is) told)

pub lists_agree : (a b : Body) (vs ws : List Value) → a ≡ body.List vs → b ≡ body.List ws → Agree a b → map serialize vs ≡ map serialize ws
unfolding roll-Body denote.Hole.Carrier.roll
lists_agree a b vs ws is are told = at_both a b (Body-F.List vs) (Body-F.List ws) is are told

pub sexps_agree : (a b : Body) (vs ws : List Value) → a ≡ body.Sexp vs → b ≡ body.Sexp ws → Agree a b → map serialize vs ≡ map serialize ws
unfolding roll-Body denote.Hole.Carrier.roll
sexps_agree a b vs ws is are told = at_both a b (Body-F.Sexp vs) (Body-F.Sexp ws) is are told

pub structs_agree : (a b : Body) (fs gs : List Field) → a ≡ body.Struct fs → b ≡ body.Struct gs → Agree a b
    → in_order (map field_hash fs) ≡ in_order (map field_hash gs)
unfolding roll-Body denote.Hole.Carrier.roll
structs_agree a b fs gs is are told = at_both a b (Body-F.Struct fs) (Body-F.Struct gs) is are told

-- ---- bodies of two kinds, and scalars

no_list : (T : Type 0) (vs : List Value) (y : Body-F Body Field Value) → ((ws : List Value) → y ≡ Body-F.List ws → ⊥) → BodiesAgree (Body-F.List vs) y T → T
no_list T vs (Body-F.List ws) other told = absurd (other ws refl)
no_list T vs _ other told = told

no_sexp : (T : Type 0) (vs : List Value) (y : Body-F Body Field Value) → ((ws : List Value) → y ≡ Body-F.Sexp ws → ⊥) → BodiesAgree (Body-F.Sexp vs) y T → T
no_sexp T vs (Body-F.Sexp ws) other told = absurd (other ws refl)
no_sexp T vs _ other told = told

no_struct : (T : Type 0) (fs : List Field) (y : Body-F Body Field Value) → ((gs : List Field) → y ≡ Body-F.Struct gs → ⊥)
    → BodiesAgree (Body-F.Struct fs) y T → T
no_struct T fs (Body-F.Struct gs) other told = absurd (other gs refl)
no_struct T fs _ other told = told

no_container : (T : Type 0) (x y : Body-F Body Field Value) → ((vs : List Value) → x ≡ Body-F.List vs → ⊥)
    → ((vs : List Value) → x ≡ Body-F.Sexp vs → ⊥) → ((fs : List Field) → x ≡ Body-F.Struct fs → ⊥) → BodiesAgree x y T → T
no_container T (Body-F.List vs) y p q r told = absurd (p vs refl)
no_container T (Body-F.Sexp vs) y p q r told = absurd (q vs refl)
no_container T (Body-F.Struct fs) y p q r told = absurd (r fs refl)
no_container T _ y p q r told = told

at_left : (a b : Body) (x : Body-F Body Field Value) → a ≡ roll-Body x → Agree a b → BodiesAgree x (out-Body b) (Equal a b)
at_left a b x is told =
    let left : Body-F Body Field Value → Type 0 = λ z. BodiesAgree z (out-Body b) (Equal a b) in subst left (level_is a x is) told

pub after_list : (a b : Body) (vs : List Value) → a ≡ body.List vs → ((ws : List Value) → b ≡ body.List ws → ⊥) → Agree a b
    → is_equivalent_body a b ≡ true
unfolding roll-Body denote.Hole.Carrier.roll
after_list a b vs is other told =
    no_list (Equal a b) vs (out-Body b) (λ ws e. other ws (back b (Body-F.List ws) e)) (at_left a b (Body-F.List vs) is told)

pub after_sexp : (a b : Body) (vs : List Value) → a ≡ body.Sexp vs → ((ws : List Value) → b ≡ body.Sexp ws → ⊥) → Agree a b
    → is_equivalent_body a b ≡ true
unfolding roll-Body denote.Hole.Carrier.roll
after_sexp a b vs is other told =
    no_sexp (Equal a b) vs (out-Body b) (λ ws e. other ws (back b (Body-F.Sexp ws) e)) (at_left a b (Body-F.Sexp vs) is told)

pub after_struct : (a b : Body) (fs : List Field) → a ≡ body.Struct fs → ((gs : List Field) → b ≡ body.Struct gs → ⊥) → Agree a b
    → is_equivalent_body a b ≡ true
unfolding roll-Body denote.Hole.Carrier.roll
after_struct a b fs is other told =
    no_struct (Equal a b) fs (out-Body b) (λ gs e. other gs (back b (Body-F.Struct gs) e)) (at_left a b (Body-F.Struct fs) is told)

pub after_scalar : (a b : Body) → ((vs : List Value) → a ≡ body.List vs → ⊥) → ((vs : List Value) → a ≡ body.Sexp vs → ⊥)
    → ((fs : List Field) → a ≡ body.Struct fs → ⊥) → Agree a b → is_equivalent_body a b ≡ true
unfolding roll-Body denote.Hole.Carrier.roll
after_scalar a b p q r told =
    no_container (Equal a b) (out-Body a) (out-Body b) (λ vs e. p vs (back a (Body-F.List vs) e)) (λ vs e. q vs (back a (Body-F.Sexp vs) e))
    (λ fs e. r fs (back a (Body-F.Struct fs) e)) told
