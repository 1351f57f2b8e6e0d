-- Joined intervals, and the lists of joined ones that lead from one to another.
use Rattle.std.proofs.Common.{◌≡◌, ℕ, ◌%◌, inl, inr, refl, sym, ◌∙◌}
use Rattle.gj_shape.specs.declared.faces.FaceKind.{FaceKind}
use Rattle.gj_shape.specs.declared.faces.FaceKind.TheVariants.{Vertex, Horizontal, Vertical, Diagonal, Lower, Upper}
use Rattle.gj_limit_cover.specs.LimitCover.{LinksBy, Joins, AreJoined, Covers, IsDirectlyCovered, LeadsTo, here, onward, IsCovered, ProjectsOn}

-- an edge sees no more of the intervals than their rests
pub links_same : (q : ℕ) (T : FaceKind → ℕ → ℕ → ℕ → Type 0) (kind : FaceKind) (a b i j k l : ℕ) →
    i % q ≡ k % q → j % q ≡ l % q → LinksBy q T kind a b i j → LinksBy q T kind a b k l
links_same q T Vertex a b i j k l e g h = absurd h
links_same q T Horizontal a b i j k l e g (x, y, z, w) = (x, y, z ∙ e, w ∙ g)
links_same q T Vertical a b i j k l e g (x, y, z, w) = (x, y, z ∙ e, w ∙ g)
links_same q T Diagonal a b i j k l e g (x, y, z, w) = (x, y, z ∙ e, w ∙ g)
links_same q T Lower a b i j k l e g (inl (x, y, z, w)) = inl (x, y, z ∙ e, w ∙ g)
links_same q T Lower a b i j k l e g (inr (inl (x, y, z, w))) = inr (inl (x, y, z ∙ e, w ∙ g))
links_same q T Lower a b i j k l e g (inr (inr (x, y, z, w))) = inr (inr (x, y, z ∙ e, w ∙ g))
links_same q T Upper a b i j k l e g (inl (x, y, z, w)) = inl (x, y, z ∙ e, w ∙ g)
links_same q T Upper a b i j k l e g (inr (inl (x, y, z, w))) = inr (inl (x, y, z ∙ e, w ∙ g))
links_same q T Upper a b i j k l e g (inr (inr (x, y, z, w))) = inr (inr (x, y, z ∙ e, w ∙ g))

pub joined_remainders : (q : ℕ) (T : FaceKind → ℕ → ℕ → ℕ → Type 0) (i j k l : ℕ) → i % q ≡ k % q →
    j % q ≡ l % q → AreJoined q T i j → AreJoined q T k l
joined_remainders q T i j k l e g (kind, a, b, inl h) =
    (kind, a, b, inl (links_same q T kind a b i j k l e g h))
joined_remainders q T i j k l e g (kind, a, b, inr h) =
    (kind, a, b, inr (links_same q T kind a b j i l k g e h))

pub joined_same : (q : ℕ) (T : FaceKind → ℕ → ℕ → ℕ → Type 0) (i j k : ℕ) → i % q ≡ k % q →
    AreJoined q T i j → AreJoined q T k j
joined_same q T i j k e h = joined_remainders q T i j k j e refl h

pub joins_turned : (q : ℕ) (T : FaceKind → ℕ → ℕ → ℕ → Type 0) (kind : FaceKind) (a b i j : ℕ) →
    Joins q T kind a b i j → Joins q T kind a b j i
joins_turned q T kind a b i j (inl h) = inr h
joins_turned q T kind a b i j (inr h) = inl h

pub joined_turned : (q : ℕ) (T : FaceKind → ℕ → ℕ → ℕ → Type 0) (i j : ℕ) → AreJoined q T i j →
    AreJoined q T j i
joined_turned q T i j (kind, a, b, h) = (kind, a, b, joins_turned q T kind a b i j h)

projects_same : (q a b sum i k : ℕ) → i % q ≡ k % q → ProjectsOn q a b sum i →
    ProjectsOn q a b sum k
projects_same q a b sum i k e (inl h) = inl (h ∙ e)
projects_same q a b sum i k e (inr (inl h)) = inr (inl (h ∙ e))
projects_same q a b sum i k e (inr (inr h)) = inr (inr (h ∙ e))

pub covers_same : (q : ℕ) (T : FaceKind → ℕ → ℕ → ℕ → Type 0) (kind : FaceKind) (a b i k : ℕ) →
    i % q ≡ k % q → Covers q T kind a b i → Covers q T kind a b k
covers_same q T Vertex a b i k e h = absurd h
covers_same q T Horizontal a b i k e h = absurd h
covers_same q T Vertical a b i k e h = absurd h
covers_same q T Diagonal a b i k e h = absurd h
covers_same q T Lower a b i k e (x, h) = (x, projects_same q a b _ i k e h)
covers_same q T Upper a b i k e (x, h) = (x, projects_same q a b _ i k e h)

pub directly_same : (q : ℕ) (T : FaceKind → ℕ → ℕ → ℕ → Type 0) (i k : ℕ) → i % q ≡ k % q →
    IsDirectlyCovered q T i → IsDirectlyCovered q T k
directly_same q T i k e (kind, a, b, h) = (kind, a, b, covers_same q T kind a b i k e h)

-- ---- lists that lead from one to another

pub leads_same : (q : ℕ) (T : FaceKind → ℕ → ℕ → ℕ → Type 0) (j i k : ℕ) → i % q ≡ k % q →
    LeadsTo q T j i → LeadsTo q T j k
leads_same q T j i k e (here _ g) = here k (sym e ∙ g)
leads_same q T j i k e (onward _ next h rest) = onward k next (joined_same q T i next k e h) rest

pub leads_on : (q : ℕ) (T : FaceKind → ℕ → ℕ → ℕ → Type 0) (k j i : ℕ) → LeadsTo q T j i →
    LeadsTo q T k j → LeadsTo q T k i
leads_on q T k j i (here _ g) last = leads_same q T k j i (sym g) last
leads_on q T k j i (onward _ next h rest) last = onward i next h (leads_on q T k j next rest last)

-- one interval more at the end
leads_onward : (q : ℕ) (T : FaceKind → ℕ → ℕ → ℕ → Type 0) (j i d : ℕ) → AreJoined q T j i →
    LeadsTo q T j d → LeadsTo q T i d
leads_onward q T j i _ both (here d e) =
    onward d i (joined_remainders q T j i d i (sym e) refl both) (here i refl)
leads_onward q T j i _ both (onward d next first rest) =
    onward d next first (leads_onward q T j i next both rest)

-- the list from its end
pub leads_turned : (q : ℕ) (T : FaceKind → ℕ → ℕ → ℕ → Type 0) (j i : ℕ) → LeadsTo q T j i →
    LeadsTo q T i j
leads_turned q T j _ (here i e) = here j (sym e)
leads_turned q T j _ (onward i next both rest) =
    leads_onward q T next i j (joined_turned q T i next both) (leads_turned q T j next rest)

-- an interval that is joined to a covered one is covered
pub covered_on : (q : ℕ) (T : FaceKind → ℕ → ℕ → ℕ → Type 0) (i j : ℕ) → AreJoined q T i j →
    IsCovered q T j → IsCovered q T i
covered_on q T i j h (k, direct, list) =
    (k, direct, leads_on q T i j k list (onward j i (joined_turned q T i j h) (here i refl)))

pub covered_directly : (q : ℕ) (T : FaceKind → ℕ → ℕ → ℕ → Type 0) (i : ℕ) →
    IsDirectlyCovered q T i → IsCovered q T i
covered_directly q T i h = (i, h, here i refl)
