pub mod PrintLeaves
