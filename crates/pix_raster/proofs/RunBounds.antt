-- What a run keeps of a format, and how near it is to the exact run: from one channel to all of an
-- image.
use Rattle.std.specs.Prelude.{All}
use Rattle.std.specs.List.{zip}
use Rattle.std.proofs.Common.{◌≡◌, ℕ, zero, suc, ◌<◌, ◌≤◌, ◌+◌, List, [], ◌∷◌, map, fold, get_or, replicate, cond, Bool, true, false, refl, sym, ap, ◌∙◌, arith, le_refl, subst, inl, inr, ◌*◌}
use Rattle.std.proofs.lemmas.Bool.{cases_lt}
use Rattle.std.proofs.lemmas.List.{get_or-replicate, get_or_past, length-replicate}
use Rattle.std.proofs.lemmas.List.Elements.{All-nil, All-cons, All-head, All-tail, All-append}
use Rattle.pix_chan.specs.Product.{channel_product, fineness, IsProduct}
use Rattle.pix_ops.specs.ExactRun.{ChannelEffect, InRange, Rounded, rounded_step, rounded_run, IsWithinBudget, IsWithinPremultipliedBound, HasSmallBudget}
use Rattle.pix_ops.proofs.RunBounds.{run_within_budget, premultiplied_run_near, budget_small}
use Rattle.pix_el.specs.Pixel.{Layout, channel}
use Rattle.pix_el.specs.PixelComposite.{matted_color, matte_value}
use Rattle.pix_el.specs.Premultiplied.{IsBounded, IsPremultiplied}
use Rattle.pix_el.proofs.Composited.{Fits, bounded-pixel_composite, bounded-matted, composite_fits, matted_fits, made_premultiplied, matted_premultiplied, composite_uncut}
use Rattle.pix_raster.specs.Region.{Rectangle}
use Rattle.pix_raster.specs.Image.{Image, Changed, point, region_of}
use Rattle.pix_raster.specs.Run.{Effect, Cleared, Copied, Composited, Matted, effect_at, effects_at, apply, run_at}
use Rattle.pix_raster.specs.Bounds.{on_channel, channel_effects, with_alpha, OfEachChannel}
use Rattle.pix_raster.specs.PremultipliedRuns.{BringsPremultiplied, CutsNoSum, StaysPremultiplied, KeepsPremultiplied}
use Rattle.pix_raster.specs.declared.command.Command.{Command}
use Rattle.pix_raster.specs.declared.command.Command.TheVariants as commands

-- a format whose alpha is a channel, read by numbers that no channel passes the top of, and mattes
-- likewise
pub record IsFormat {P M : Type 0} (layout : Layout) (numbers : P → List ℕ) (mattes : M → List ℕ) : Type 0 where
  pub laws : IsProduct fineness layout.max (channel_product layout.max)
  pub alpha : IsBounded layout layout.alpha
  pub fit : (p : P) → Fits layout.max (numbers p)
  pub mattes_fit : (m : M) → Fits layout.max (mattes m)

-- the numbers of an effect do not pass the top
abbrev pub IsFit : Layout → Effect → Type 0
IsFit layout Cleared = Unit {0}
IsFit layout (Copied source) = Fits layout.max source
IsFit layout (Composited op source) = Fits layout.max source
IsFit layout (Matted op matte source) = Fits layout.max matte × Fits layout.max source

nothing_fits : (max : ℕ) → Fits max []
nothing_fits max = record { at = λ ch. le_refl max }

listed_fit : {P : Type 0} (max : ℕ) (n : P → List ℕ) (xs : List P) (k : ℕ) → ((p : P) → Fits max (n p)) → Fits max (get_or (map n xs) k [])
listed_fit max n [] k fit = nothing_fits max
listed_fit max n (x ∷ xs) zero fit = fit x
listed_fit max n (x ∷ xs) (suc k) fit = listed_fit max n xs k fit

-- what stands at a point fits
pub point_fits : {P : Type 0} (max : ℕ) (n : P → List ℕ) (image : Image P) (x y : ℕ) → ((p : P) → Fits max (n p)) → Fits max (point n image x y)
point_fits max n image x y fit = listed_fit max n image.pixels (y * image.width + x) fit

all_where : (F : Effect → Type 0) (effect : Effect) (reached : Bool) → F effect → All F (cond reached (effect ∷ []) [])
all_where F effect true f = All-cons F effect [] f (All-nil F)
all_where F effect false f = All-nil F

-- one effect where both of two tests hold
all_both : (F : Effect → Type 0) (effect : List ℕ → List ℕ → Effect) (matte source : List ℕ) (reached covered : Bool) → F (effect matte source)
    → All F (map (λ t. effect t.0 t.1) (zip (cond reached (matte ∷ []) []) (cond covered (source ∷ []) [])))
all_both F effect matte source true true f = All-cons F (effect matte source) [] f (All-nil F)
all_both F effect matte source true false f = All-nil F
all_both F effect matte source false covered f = All-nil F

effect_fits : {P M : Type 0} (layout : Layout) (n : P → List ℕ) (m : M → List ℕ) (dest : Rectangle) (command : Command P M) (x y : ℕ) → IsFormat layout n m
    → All (IsFit layout) (effect_at n m dest command x y)
effect_fits layout n m dest commands.Clear x y format = All-cons (IsFit layout) Cleared [] tt (All-nil (IsFit layout))
effect_fits layout n m dest (commands.CopyColor reg clr) x y format = all_where (IsFit layout) (Copied (n clr)) _ (format.fit clr)
effect_fits layout n m dest (commands.CopyRaster to src from) x y format =
    all_where (IsFit layout) _ _ (point_fits layout.max n src.now _ _ format.fit)
effect_fits layout n m dest (commands.Color reg clr op) x y format = all_where (IsFit layout) (Composited op (n clr)) _ (format.fit clr)
effect_fits layout n m dest (commands.Raster to src from op) x y format =
    all_where (IsFit layout) _ _ (point_fits layout.max n src.now _ _ format.fit)
effect_fits layout n m dest (commands.Matte to src from clr op) x y format =
    all_where (IsFit layout) _ _ (point_fits layout.max m src.now _ _ format.mattes_fit, format.fit clr)
effect_fits layout n m dest (commands.RasterMatte to src from mask mask_from op) x y format =
    all_both (IsFit layout) (Matted op) _ _ _ _ (point_fits layout.max m mask.now _ _ format.mattes_fit, point_fits layout.max n src.now _ _ format.fit)
effect_fits layout n m dest (commands.RasterAlpha to src from alpha op) x y format =
    all_where (IsFit layout) _ _ (format.mattes_fit alpha, point_fits layout.max n src.now _ _ format.fit)

-- what the commands bring to a point fits
pub effects_fit : {P M : Type 0} (layout : Layout) (n : P → List ℕ) (m : M → List ℕ) (dest : Rectangle) (cs : List (Command P M)) (x y : ℕ) → IsFormat layout n m
    → All (IsFit layout) (effects_at n m dest cs x y)
effects_fit layout n m dest [] x y format = All-nil (IsFit layout)
effects_fit layout n m dest (command ∷ cs) x y format =
    All-append (IsFit layout) (effect_at n m dest command x y) (effects_at n m dest cs x y) (effect_fits layout n m dest command x y format) (effects_fit layout n m dest cs x y format)

-- an effect on a channel that fits is one of channels
channel_fits : (layout : Layout) (ch : ℕ) (effect : Effect) → IsFit layout effect → InRange layout.max (on_channel layout ch effect)
channel_fits layout ch Cleared fit = (omega arith, omega arith)
channel_fits layout ch (Copied source) fit = (fit.at ch, fit.at layout.alpha)
channel_fits layout ch (Composited op source) fit = (fit.at ch, fit.at layout.alpha)
channel_fits layout ch (Matted op matte source) fit = (fit.0.at 0, fit.1.at ch, fit.1.at layout.alpha)

channels_fit : (layout : Layout) (ch : ℕ) (effects : List Effect) → All (IsFit layout) effects → All (InRange layout.max) (channel_effects layout ch effects)
channels_fit layout ch [] fit = All-nil (InRange layout.max)
channels_fit layout ch (effect ∷ effects) fit =
    All-cons (InRange layout.max) (on_channel layout ch effect) (channel_effects layout ch effects)
    (channel_fits layout ch effect (All-head (IsFit layout) effect effects fit)) (channels_fit layout ch effects (All-tail (IsFit layout) effect effects fit))

-- an effect on a pixel is, at the place of a channel, the effect on that channel
step_on_channel : (layout : Layout) (ch : ℕ) (pixel : List ℕ) (effect : Effect) → IsBounded layout ch → IsBounded layout layout.alpha
    → with_alpha layout ch (apply layout pixel effect) ≡ rounded_step layout.max (with_alpha layout ch pixel) (on_channel layout ch effect)
step_on_channel layout ch pixel Cleared b a =
    rw (get_or-replicate layout.count ch 0 layout.max b.within, get_or-replicate layout.count layout.alpha 0 layout.max a.within) refl
step_on_channel layout ch pixel (Copied source) b a = refl
step_on_channel layout ch pixel (Composited op source) b a =
    rw (bounded-pixel_composite layout op source pixel ch b, bounded-pixel_composite layout op source pixel layout.alpha a) refl
step_on_channel layout ch pixel (Matted op matte source) b a =
    let color : List ℕ = matted_color layout (matte_value layout matte) source in
    rw (
      bounded-pixel_composite layout op color pixel ch b,
      bounded-pixel_composite layout op color pixel layout.alpha a,
      bounded-matted layout (matte_value layout matte) source ch b,
      bounded-matted layout (matte_value layout matte) source layout.alpha a,
    ) refl

-- and so is a list of effects
run_on_channel : (layout : Layout) (ch : ℕ) (pixel : List ℕ) (effects : List Effect) → IsBounded layout ch → IsBounded layout layout.alpha
    → with_alpha layout ch (fold (apply layout) pixel effects) ≡ rounded_run layout.max (with_alpha layout ch pixel) (channel_effects layout ch effects)
run_on_channel layout ch pixel [] b a = refl
run_on_channel layout ch pixel (effect ∷ effects) b a =
    run_on_channel layout ch (apply layout pixel effect) effects b a
    ∙ ap (λ (r : Rounded). rounded_run layout.max r (channel_effects layout ch effects)) (step_on_channel layout ch pixel effect b a)

-- the channel at a point after a run
made_on_channel : {P M : Type 0} (layout : Layout) (n : P → List ℕ) (m : M → List ℕ) (cs : List (Command P M)) (old new : Image P) (x y ch : ℕ) → IsFormat layout n m
    → Changed n old new (run_at layout n m (region_of old) cs) → x < old.width → y < old.height → IsBounded layout ch
    → rounded_run layout.max (with_alpha layout ch (point n old x y)) (channel_effects layout ch (effects_at n m (region_of old) cs x y)) ≡ with_alpha layout ch (point n new x y)
made_on_channel layout n m cs old new x y ch format changed hx hy b =
    sym (ap (with_alpha layout ch) (changed.points x y hx hy) ∙ run_on_channel layout ch (point n old x y) (effects_at n m (region_of old) cs x y) b format.alpha)

-- what the bound of one channel's run says, it says of each channel of an image
each_channel : {P M : Type 0} (layout : Layout) (n : P → List ℕ) (m : M → List ℕ) (cs : List (Command P M)) (old new : Image P)
    (Claim : Rounded → List ChannelEffect → Rounded → Type 0) → IsFormat layout n m → Changed n old new (run_at layout n m (region_of old) cs)
    → ((start : Rounded) (effects : List ChannelEffect) → start.channel ≤ layout.max → start.alpha ≤ layout.max → All (InRange layout.max) effects
    → Claim start effects (rounded_run layout.max start effects))
    → OfEachChannel layout n m cs old new Claim
each_channel layout n m cs old new Claim format changed bound = λ x y ch hx hy b.
    let effects = effects_at n m (region_of old) cs x y in
    let start = with_alpha layout ch (point n old x y) in
    let fits = point_fits layout.max n old x y format.fit in
    subst (λ (made : Rounded). Claim start (channel_effects layout ch effects) made)
    (made_on_channel layout n m cs old new x y ch format changed hx hy b)
    (bound start (channel_effects layout ch effects) (fits.at ch) (fits.at layout.alpha)
    (channels_fit layout ch effects (effects_fit layout n m (region_of old) cs x y format)))

-- each channel is within its rounding budget of the exact run
pub within_budget : {P M : Type 0} (layout : Layout) (n : P → List ℕ) (m : M → List ℕ) (cs : List (Command P M)) (old new : Image P) → IsFormat layout n m
    → Changed n old new (run_at layout n m (region_of old) cs) → OfEachChannel layout n m cs old new (IsWithinBudget layout.max)
within_budget layout n m cs old new format changed =
    each_channel layout n m cs old new (IsWithinBudget layout.max) format changed (λ start effects. run_within_budget layout.max start effects format.laws)

-- and within the premultiplied bound, where the sources are
pub within_premultiplied_bound : {P M : Type 0} (layout : Layout) (n : P → List ℕ) (m : M → List ℕ) (cs : List (Command P M)) (old new : Image P) → IsFormat layout n m
    → Changed n old new (run_at layout n m (region_of old) cs) → OfEachChannel layout n m cs old new (IsWithinPremultipliedBound layout.max)
within_premultiplied_bound layout n m cs old new format changed =
    each_channel layout n m cs old new (IsWithinPremultipliedBound layout.max) format changed (λ start effects. premultiplied_run_near layout.max start effects format.laws)

-- the budgets are small
pub small_budget : {P M : Type 0} (layout : Layout) (n : P → List ℕ) (m : M → List ℕ) (cs : List (Command P M)) (old new : Image P)
    → OfEachChannel layout n m cs old new (λ start effects made. HasSmallBudget effects)
small_budget layout n m cs old new = λ x y ch hx hy b. budget_small _

-- channels of 0 fit
zeros_fit : (layout : Layout) (ch : ℕ) → channel layout.max (replicate layout.count 0) ch ≤ layout.max
zeros_fit layout ch = elim (cases_lt ch layout.count) [
  | inl lt ↦ rw (get_or-replicate layout.count ch 0 layout.max lt) (omega arith)
  | inr past ↦ rw (get_or_past (replicate layout.count 0) ch layout.max (omega (arith, length-replicate {A = ℕ} layout.count 0))) (le_refl layout.max)
]

-- what one effect keeps
step_kept : (layout : Layout) (pixel : List ℕ) (effect : Effect) → IsProduct fineness layout.max (channel_product layout.max) → IsBounded layout layout.alpha
    → Fits layout.max pixel → IsFit layout effect → IsPremultiplied layout pixel → BringsPremultiplied layout effect
    → Fits layout.max (apply layout pixel effect) × IsPremultiplied layout (apply layout pixel effect) × CutsNoSum layout pixel effect
step_kept layout pixel Cleared laws a fd fs pd ps = (
  record { at = λ ch. zeros_fit layout ch },
  λ ch b. rw (get_or-replicate layout.count ch 0 layout.max b.within) (omega arith),
  tt,
)
step_kept layout pixel (Copied source) laws a fd fs pd ps = (fs, ps, tt)
step_kept layout pixel (Composited op source) laws a fd fs pd ps = (
  composite_fits layout op source pixel laws,
  made_premultiplied layout op source pixel _ laws refl a ps pd,
  composite_uncut layout op source pixel laws fs fd ps pd,
)
step_kept layout pixel (Matted op matte source) laws a fd fs pd ps =
    let value : ℕ = matte_value layout matte in
    let color : List ℕ = matted_color layout value source in
    let pc : IsPremultiplied layout color = matted_premultiplied layout value source laws a ps in (
      composite_fits layout op color pixel laws,
      made_premultiplied layout op color pixel _ laws refl a pc pd,
      composite_uncut layout op color pixel laws (matted_fits layout value source laws fs.1 (fs.0.at 0)) fd pc pd,
    )

-- what a list of effects keeps
run_kept : (layout : Layout) (pixel : List ℕ) (effects : List Effect) → IsProduct fineness layout.max (channel_product layout.max) → IsBounded layout layout.alpha
    → Fits layout.max pixel → All (IsFit layout) effects → IsPremultiplied layout pixel → All (BringsPremultiplied layout) effects
    → StaysPremultiplied layout pixel effects (fold (apply layout) pixel effects)
run_kept layout pixel [] laws a fd fs pd ps = record { premultiplied = pd; uncut = tt }
run_kept layout pixel (effect ∷ effects) laws a fd fs pd ps =
    let one = step_kept layout pixel effect laws a fd (All-head (IsFit layout) effect effects fs) pd (All-head (BringsPremultiplied layout) effect effects ps) in
    let rest = run_kept layout (apply layout pixel effect) effects laws a one.0 (All-tail (IsFit layout) effect effects fs) one.1 (All-tail (BringsPremultiplied layout) effect effects ps) in
    record { premultiplied = rest.premultiplied; uncut = (one.2, rest.uncut) }

-- a run keeps premultiplied pixels premultiplied
pub keeps_premultiplied : {P M : Type 0} (layout : Layout) (n : P → List ℕ) (m : M → List ℕ) (cs : List (Command P M)) (old new : Image P) → IsFormat layout n m
    → Changed n old new (run_at layout n m (region_of old) cs) → KeepsPremultiplied layout n m cs old new
keeps_premultiplied layout n m cs old new format changed = λ x y hx hy pd ps.
    let effects = effects_at n m (region_of old) cs x y in
    subst (λ (made : List ℕ). StaysPremultiplied layout (point n old x y) effects made) (sym (changed.points x y hx hy))
    (run_kept layout (point n old x y) effects format.laws format.alpha (point_fits layout.max n old x y format.fit) (effects_fit layout n m (region_of old) cs x y format) pd ps)
