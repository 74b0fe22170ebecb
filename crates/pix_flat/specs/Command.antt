-- Commands by their numbers, as commands of the library on images in memory.
use Rattle.std.specs.Prelude.{ℕ, List, map, length, slice_index_or, Bool, not, ◌&&◌, ◌||◌, nat_eq, if◌then◌else◌}
use denote.Bor.{Bor}
use Rattle.pix_ops.specs.declared.ops.Op.{Op}
use Rattle.pix_ops.specs.declared.ops.Op.TheVariants.{Src}
use Rattle.pix_ops.specs.OperatorNames.{operators}
use Rattle.pix_raster.specs.Region.{Rectangle}
pub use Rattle.pix_raster.specs.Draw.{joined_rows, image_of, borrowed}
use Rattle.pix_raster.specs.declared.command.Command.{Command}
use Rattle.pix_raster.specs.declared.command.Command.TheVariants as commands
use Rattle.pix_flat.specs.declared.command.PixRegion.{PixRegion}
use Rattle.pix_flat.specs.declared.command.PixCommand.{PixCommand}
use Rattle.pix_flat.specs.declared.command.PixCommandRgba16.{PixCommandRgba16}
use Rattle.pix_flat.specs.declared.command.PixCommandGraya8.{PixCommandGraya8}
use Rattle.pix_flat.specs.declared.command.FlatCommand.{FlatCommand}
use Rattle.pix_flat.specs.declared.format.PixRgba8.{PixRgba8}
use Rattle.pix_flat.specs.declared.format.PixRgba16.{PixRgba16}
use Rattle.pix_flat.specs.declared.format.PixGraya8.{PixGraya8}
use Rattle.pix_flat.specs.declared.format.PixMatte8.{PixMatte8}
use Rattle.pix_flat.specs.Format.{widened}

-- the operator of a number; a number that is none is refused
abbrev pub op_at : ℕ → Op
op_at number = slice_index_or operators number Src

-- the rectangle of a region
abbrev pub rectangle : PixRegion → Rectangle
rectangle r = record { left = r.x; top = r.y; width = r.width; height = r.height }

-- a command by the number of its kind, as one of the library
abbrev pub command_of : {D M : Type 0} → FlatCommand D M → Command D M
command_of c =
    let pixels = borrowed (image_of c.width c.height c.stride c.pixels.now) in
    let mattes = borrowed (image_of c.width c.height c.stride c.mattes.now) in
    let mask = borrowed (image_of c.mask_width c.mask_height c.mask_stride c.mattes.now) in
    if nat_eq c.kind 0 then commands.Clear
    else (if nat_eq c.kind 1 then commands.CopyColor (rectangle c.to) c.color
    else (if nat_eq c.kind 2 then commands.CopyRaster (rectangle c.to) pixels (rectangle c.from)
    else (if nat_eq c.kind 3 then commands.Color (rectangle c.to) c.color (op_at c.op)
    else (if nat_eq c.kind 4 then commands.Raster (rectangle c.to) pixels (rectangle c.from) (op_at c.op)
    else (if nat_eq c.kind 5 then commands.Matte (rectangle c.to) mattes (rectangle c.from) c.color (op_at c.op)
    else (if nat_eq c.kind 6 then commands.RasterMatte (rectangle c.to) pixels (rectangle c.from) mask (rectangle c.mask) (op_at c.op)
    else commands.RasterAlpha (rectangle c.to) pixels (rectangle c.from) c.alpha (op_at c.op)))))))

-- a command of 8 bits, with the same fields in the layout of all formats
abbrev pub rgba8_command : PixCommand → FlatCommand PixRgba8 ℕ
rgba8_command c = record {
  kind = c.kind;
  op = c.op;
  to = c.to;
  from = c.from;
  color = c.color;
  pixels = c.pixels;
  mattes = c.mattes;
  width = c.width;
  height = c.height;
  stride = c.stride;
  mask = c.mask;
  mask_width = c.mask_width;
  mask_height = c.mask_height;
  mask_stride = c.mask_stride;
  alpha = c.alpha;
}

abbrev pub graya8_command : PixCommandGraya8 → FlatCommand PixGraya8 ℕ
graya8_command c = record {
  kind = c.kind;
  op = c.op;
  to = c.to;
  from = c.from;
  color = c.color;
  pixels = c.pixels;
  mattes = c.mattes;
  width = c.width;
  height = c.height;
  stride = c.stride;
  mask = c.mask;
  mask_width = c.mask_width;
  mask_height = c.mask_height;
  mask_stride = c.mask_stride;
  alpha = c.alpha;
}

-- a command of 16 bits with these mattes, and this opacity
abbrev pub with_mattes : {M : Type 0} → PixCommandRgba16 → Bor (List M) → M → FlatCommand PixRgba16 M
with_mattes c mattes alpha = record {
  kind = c.kind;
  op = c.op;
  to = c.to;
  from = c.from;
  color = c.color;
  pixels = c.pixels;
  mattes = mattes;
  width = c.width;
  height = c.height;
  stride = c.stride;
  mask = c.mask;
  mask_width = c.mask_width;
  mask_height = c.mask_height;
  mask_stride = c.mask_stride;
  alpha = alpha;
}

-- such a command with its own mattes of 16 bits, and with those of 8, for kinds without an opacity
abbrev pub wide_command : PixCommandRgba16 → FlatCommand PixRgba16 ℕ
wide_command c = with_mattes c c.mattes c.alpha

abbrev pub narrow_command : PixCommandRgba16 → FlatCommand PixRgba16 PixMatte8
narrow_command c = with_mattes c c.mattes8 (record { value = 0 })

-- whether such a command reads mattes of 8 bits: it has some, and its kind reads mattes (5 and 6)
abbrev pub is_narrow : PixCommandRgba16 → Bool
is_narrow c = not (nat_eq (length c.mattes8.now) 0) && (nat_eq c.kind 5 || nat_eq c.kind 6)

-- the mattes that it reads: those of 8 bits, each as one of 16, or those of 16
abbrev pub mattes_read : PixCommandRgba16 → Bor (List ℕ)
mattes_read c = if is_narrow c then record { ref_ptr = (0, 0); now = map widened c.mattes8.now } else c.mattes

-- such a command, with the mattes that it reads
abbrev pub rgba16_command : PixCommandRgba16 → FlatCommand PixRgba16 ℕ
rgba16_command c = with_mattes c (mattes_read c) c.alpha
