-- What the program tells of itself: its help and its version, and which words ask for them.
use Rattle.std.specs.Prelude.{ℕ, List, [], ◌∷◌, ◌++◌, ◌||◌, Option, Some, None, bytes_eq, codes, map, if◌then◌else◌}
use Rattle.hw_app.specs.Forms.{forms}
use Rattle.hw_app.specs.Usage.{usage_text}
use Rattle.hw_app.specs.declared.form.Form.{Form}
use Rattle.tidewise.specs.declared.info.Info.{Info}
use Rattle.tidewise.specs.declared.info.Info.TheVariants.{Help, Version}
use Rattle.tidewise.specs.declared.help.TheConstants.{HEAD, PURPOSES, TAIL}
use Rattle.tidewise.specs.declared.info.TheConstants.{BUILD, VERSION}

-- what a word alone asks for
abbrev pub info_word : List ℕ → Option Info
info_word word =
    if bytes_eq word (codes "--help") || bytes_eq word (codes "-h") then Some Help
    else if bytes_eq word (codes "--version") || bytes_eq word (codes "-V") then Some Version
    else None

-- what words ask for, or none; only one word alone asks for anything
abbrev pub info_of : List (List ℕ) → Option Info
info_of [] = None
info_of (word ∷ []) = info_word word
info_of (word ∷ other ∷ words) = None

-- a form, and in the next line what it does
abbrev pub form_text : Form → List ℕ → List ℕ
form_text form purpose = codes "  " ++ usage_text form ++ codes "\n      " ++ purpose ++ codes "\n"

-- forms, each with what it does
abbrev pub forms_text : List Form → List (List ℕ) → List ℕ
forms_text [] purposes = []
forms_text (form ∷ more) [] = []
forms_text (form ∷ more) (purpose ∷ others) = form_text form purpose ++ forms_text more others

-- what the commands do
abbrev pub purposes : List (List ℕ)
purposes = map (λ text. text.now) PURPOSES

-- the help lists every form that there is
abbrev pub help_text : List ℕ
help_text = HEAD.now ++ forms_text forms purposes ++ TAIL.now

-- a build's name after the version; a build without a name has nothing there
abbrev pub build_text : List ℕ → List ℕ
build_text [] = []
build_text (b ∷ name) = codes " " ++ b ∷ name

-- the program's name, its version, and which build it is
abbrev pub version_text : List ℕ → List ℕ → List ℕ
version_text version build = codes "tidewise " ++ version ++ build_text build ++ codes "\n"

abbrev pub info_text : Info → List ℕ
info_text Help = help_text
info_text Version = version_text VERSION.now BUILD.now
