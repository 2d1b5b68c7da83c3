-- Identities of polynomials over the integers, by computing: two expressions with one normal form have one value. Assumes nothing.
-- To prove `a *ℤ (b -ℤ a) ≡ a *ℤ b -ℤ a *ℤ a`, write
--     ring (a ∷ b ∷ []) (var 0 ⊗ (var 1 ⊖ var 0)) (var 0 ⊗ var 1 ⊖ var 0 ⊗ var 0) refl
use Rattle.std.proofs.Common.{◌≡◌, ℕ, zero, suc, Bool, true, false, cond, eqb, ltb, leb, List, [], ◌∷◌, ℤ, pos, negsuc, ◌+ℤ◌, ◌-ℤ◌, ◌*ℤ◌, neg_ℤ, sym, refl, ap, ◌∙◌, ap₂, arith}
use lib.IntN.{*ℤ_comm, zero-*ℤ, +ℤ_idl, +ℤ_idr, +ℤ_assoc}
use Rattle.std.proofs.lemmas.Int.{ints}
use Rattle.decimetre.proofs.Integers.{*ℤ_distrib, *ℤ_assoc, *ℤ_negℤ}

infixl 6 ◌⊕◌ ◌⊖◌
infixl 7 ◌⊗◌
infix 8 ⊝◌
-- an expression: the unknowns are numbered from 0
pub data Expr : Type 0 where
  var : ℕ → Expr
  num : ℤ → Expr
  ◌⊕◌ : Expr → Expr → Expr
  ◌⊖◌ : Expr → Expr → Expr
  ◌⊗◌ : Expr → Expr → Expr
  ⊝◌ : Expr → Expr

-- the unknowns' values, in order; any further ones are 0
abbrev pub at : List ℤ → ℕ → ℤ
at [] k = pos 0
at (z ∷ zs) zero = z
at (z ∷ zs) (suc k) = at zs k

-- what an expression comes to
abbrev pub value : List ℤ → Expr → ℤ
value env (var k) = at env k
value env (num z) = z
value env (e ⊕ f) = value env e +ℤ value env f
value env (e ⊖ f) = value env e -ℤ value env f
value env (e ⊗ f) = value env e *ℤ value env f
value env (⊝ e) = neg_ℤ (value env e)

-- a normal form: multiples of products of unknowns, the products in order, each once and with its unknowns in order
pub data Sum : Type 0 where
  none : Sum
  plus : ℤ → List ℕ → Sum → Sum

-- how two products stand, by their unknowns
pub data Order : Type 0 where
  before same after : Order

abbrev order : List ℕ → List ℕ → Order
order [] [] = same
order [] (k ∷ n) = before
order (j ∷ m) [] = after
order (j ∷ m) (k ∷ n) = cond (ltb j k) before (cond (eqb j k) (order m n) after)

-- c times the product m, unless c is 0
abbrev keep : ℤ → List ℕ → Sum → Sum
keep (pos zero) m p = p
keep (pos (suc c)) m p = plus (pos (suc c)) m p
keep (negsuc c) m p = plus (negsuc c) m p

-- c times the product m, added at its place; and all of a normal form added to another
abbrev add : ℤ → List ℕ → Sum → Sum
add c m none = keep c m none
add c m (plus d n p) = elim (order m n) [ before ↦ keep c m (plus d n p) | same ↦ keep (c +ℤ d) n p | after ↦ plus d n (add c m p) ]

abbrev add_all : Sum → Sum → Sum
add_all none q = q
add_all (plus c m p) q = add c m (add_all p q)

-- an unknown put at its place in a product, and two products as one
abbrev insert : ℕ → List ℕ → List ℕ
insert j [] = j ∷ []
insert j (k ∷ n) = cond (leb j k) (j ∷ k ∷ n) (k ∷ insert j n)

abbrev merge : List ℕ → List ℕ → List ℕ
merge [] n = n
merge (j ∷ m) n = insert j (merge m n)

-- a normal form times c times the product m, and times another
abbrev scale : ℤ → List ℕ → Sum → Sum
scale c m none = none
scale c m (plus d n p) = add (c *ℤ d) (merge m n) (scale c m p)

abbrev multiply : Sum → Sum → Sum
multiply none q = none
multiply (plus c m p) q = add_all (scale c m q) (multiply p q)

-- the normal form of an expression
abbrev pub normal : Expr → Sum
normal (var k) = plus (pos 1) (k ∷ []) none
normal (num z) = keep z [] none
normal (e ⊕ f) = add_all (normal e) (normal f)
normal (e ⊖ f) = add_all (normal e) (scale (negsuc 0) [] (normal f))
normal (e ⊗ f) = multiply (normal e) (normal f)
normal (⊝ e) = scale (negsuc 0) [] (normal e)

-- the value of a normal form
abbrev product : List ℤ → List ℕ → ℤ
product env [] = pos 1
product env (k ∷ m) = at env k *ℤ product env m

abbrev total : List ℤ → Sum → ℤ
total env none = pos 0
total env (plus c m p) = c *ℤ product env m +ℤ total env p

order_same : (m n : List ℕ) → order m n ≡ same → m ≡ n
order_same [] [] e = refl
order_same [] (k ∷ n) e = cc
order_same (j ∷ m) [] e = cc
order_same (j ∷ m) (k ∷ n) e = go (ltb j k) (eqb j k) refl (order_same m n) e
  where
    go : (s t : Bool) → eqb j k ≡ t → (order m n ≡ same → m ≡ n) → cond s before (cond t (order m n) after) ≡ same → j ∷ m ≡ k ∷ n
    go true t q rest h = cc
    go false true q rest h = ap₂ ◌∷◌ (grind arith) (rest h)
    go false false q rest h = cc

times_one : (z : ℤ) → z *ℤ pos 1 ≡ z
times_one z = omega (arith, ints)

total-keep : (env : List ℤ) (c : ℤ) (m : List ℕ) (p : Sum) → total env (keep c m p) ≡ c *ℤ product env m +ℤ total env p
total-keep env (pos zero) m p = sym (ap (λ z. z +ℤ total env p) (zero-*ℤ (product env m)) ∙ +ℤ_idl (total env p))
total-keep env (pos (suc c)) m p = refl
total-keep env (negsuc c) m p = refl

swap : (a b c : ℤ) → b +ℤ (a +ℤ c) ≡ a +ℤ (b +ℤ c)
swap a b c = omega (arith, ints)

join : (c d m p : ℤ) → (c +ℤ d) *ℤ m +ℤ p ≡ c *ℤ m +ℤ (d *ℤ m +ℤ p)
join c d m p = ap (λ z. z +ℤ p) (*ℤ_comm (c +ℤ d) m ∙ *ℤ_distrib m c d ∙ ap₂ ◌+ℤ◌ (*ℤ_comm m c) (*ℤ_comm m d)) ∙ +ℤ_assoc (c *ℤ m) (d *ℤ m) p

total-add : (env : List ℤ) (c : ℤ) (m : List ℕ) (p : Sum) → total env (add c m p) ≡ c *ℤ product env m +ℤ total env p
total-add env c m none = total-keep env c m none
total-add env c m (plus d n p) = go (order m n) refl (total-add env c m p)
  where
    go : (o : Order) → order m n ≡ o → total env (add c m p) ≡ c *ℤ product env m +ℤ total env p → total env (elim o [ before ↦ keep c m (plus d n p) | same ↦ keep (c +ℤ d) n p | after ↦ plus d n (add c m p) ]) ≡ c *ℤ product env m +ℤ (d *ℤ product env n +ℤ total env p)
    go before e h = total-keep env c m (plus d n p)
    go same e h = total-keep env (c +ℤ d) n p ∙ join c d (product env n) (total env p) ∙ ap (λ k. c *ℤ product env k +ℤ (d *ℤ product env n +ℤ total env p)) (sym (order_same m n e))
    go after e h = ap (λ z. d *ℤ product env n +ℤ z) h ∙ swap (c *ℤ product env m) (d *ℤ product env n) (total env p)

total-add_all : (env : List ℤ) (p q : Sum) → total env (add_all p q) ≡ total env p +ℤ total env q
total-add_all env none q = sym (+ℤ_idl (total env q))
total-add_all env (plus c m p) q = total-add env c m (add_all p q) ∙ ap (λ z. c *ℤ product env m +ℤ z) (total-add_all env p q) ∙ sym (+ℤ_assoc (c *ℤ product env m) (total env p) (total env q))

exchange : (a b c : ℤ) → b *ℤ (a *ℤ c) ≡ a *ℤ (b *ℤ c)
exchange a b c = sym (*ℤ_assoc b a c) ∙ ap (λ z. z *ℤ c) (*ℤ_comm b a) ∙ *ℤ_assoc a b c

product-insert : (env : List ℤ) (j : ℕ) (m : List ℕ) → product env (insert j m) ≡ at env j *ℤ product env m
product-insert env j [] = refl
product-insert env j (k ∷ m) = go (leb j k) (product-insert env j m)
  where
    go : (t : Bool) → product env (insert j m) ≡ at env j *ℤ product env m → product env (cond t (j ∷ k ∷ m) (k ∷ insert j m)) ≡ at env j *ℤ (at env k *ℤ product env m)
    go true h = refl
    go false h = ap (λ z. at env k *ℤ z) h ∙ exchange (at env j) (at env k) (product env m)

product-merge : (env : List ℤ) (m n : List ℕ) → product env (merge m n) ≡ product env m *ℤ product env n
product-merge env [] n = sym (*ℤ_comm (pos 1) (product env n) ∙ times_one (product env n))
product-merge env (j ∷ m) n = product-insert env j (merge m n) ∙ ap (λ z. at env j *ℤ z) (product-merge env m n) ∙ sym (*ℤ_assoc (at env j) (product env m) (product env n))

regroup : (a b c d : ℤ) → a *ℤ c *ℤ (b *ℤ d) ≡ a *ℤ b *ℤ (c *ℤ d)
regroup a b c d = *ℤ_assoc a c (b *ℤ d) ∙ ap (λ z. a *ℤ z) (exchange b c d) ∙ sym (*ℤ_assoc a b (c *ℤ d))

total-scale : (env : List ℤ) (c : ℤ) (m : List ℕ) (p : Sum) → total env (scale c m p) ≡ c *ℤ product env m *ℤ total env p
total-scale env c m none = sym (*ℤ_comm (c *ℤ product env m) (pos 0) ∙ zero-*ℤ (c *ℤ product env m))
total-scale env c m (plus d n p) =
    total-add env (c *ℤ d) (merge m n) (scale c m p)
    ∙ ap₂ ◌+ℤ◌ (ap (λ z. c *ℤ d *ℤ z) (product-merge env m n) ∙ regroup c (product env m) d (product env n)) (total-scale env c m p)
    ∙ sym (*ℤ_distrib (c *ℤ product env m) (d *ℤ product env n) (total env p))

total-multiply : (env : List ℤ) (p q : Sum) → total env (multiply p q) ≡ total env p *ℤ total env q
total-multiply env none q = sym (zero-*ℤ (total env q))
total-multiply env (plus c m p) q =
    total-add_all env (scale c m q) (multiply p q)
    ∙ ap₂ ◌+ℤ◌ (total-scale env c m q ∙ *ℤ_comm (c *ℤ product env m) (total env q)) (total-multiply env p q ∙ *ℤ_comm (total env p) (total env q))
    ∙ sym (*ℤ_distrib (total env q) (c *ℤ product env m) (total env p))
    ∙ *ℤ_comm (total env q) (c *ℤ product env m +ℤ total env p)

total_negate : (env : List ℤ) (p : Sum) → total env (scale (negsuc 0) [] p) ≡ neg_ℤ (total env p)
total_negate env p = total-scale env (negsuc 0) [] p ∙ *ℤ_comm (negsuc 0) (total env p) ∙ *ℤ_negℤ (total env p) (pos 1) ∙ ap neg_ℤ (times_one (total env p))

-- an expression has the value of its normal form
total-normal : (env : List ℤ) (e : Expr) → total env (normal e) ≡ value env e
total-normal env (var k) = +ℤ_idr (pos 1 *ℤ (at env k *ℤ pos 1)) ∙ *ℤ_comm (pos 1) (at env k *ℤ pos 1) ∙ times_one (at env k *ℤ pos 1) ∙ times_one (at env k)
total-normal env (num z) = total-keep env z [] none ∙ +ℤ_idr (z *ℤ pos 1) ∙ times_one z
total-normal env (e ⊕ f) = total-add_all env (normal e) (normal f) ∙ ap₂ ◌+ℤ◌ (total-normal env e) (total-normal env f)
total-normal env (e ⊖ f) = total-add_all env (normal e) (scale (negsuc 0) [] (normal f)) ∙ ap₂ ◌+ℤ◌ (total-normal env e) (total_negate env (normal f) ∙ ap neg_ℤ (total-normal env f))
total-normal env (e ⊗ f) = total-multiply env (normal e) (normal f) ∙ ap₂ ◌*ℤ◌ (total-normal env e) (total-normal env f)
total-normal env (⊝ e) = total_negate env (normal e) ∙ ap neg_ℤ (total-normal env e)

-- two expressions with one normal form are equal at any values
pub ring : (env : List ℤ) (e f : Expr) → normal e ≡ normal f → value env e ≡ value env f
ring env e f h = sym (total-normal env e) ∙ ap (total env) h ∙ total-normal env f
